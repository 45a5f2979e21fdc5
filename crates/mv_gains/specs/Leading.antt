-- What private functions alone cite: the best of the kernels so far.
use Rattle.std.specs.Prelude.{Bool, ◌&&◌, ◌||◌, nat_lt, nat_eq, Option, Some, None, if◌then◌else◌}
use Rattle.std.specs.Ordering.{is_lt}
use Rattle.mv_kernels.specs.Order.{cubes_cmp}
use Rattle.mv_gains.specs.declared.kernels.Candidate.{Candidate}
use Rattle.mv_gains.specs.declared.leader.Offer.{Offer}

-- the candidate's divisor, and what it saves
abbrev pub offer : Candidate → Offer
offer c = record { divisor = c.kernel.cubes; saved = c.saved }

-- the new one saves something, and more than the best so far, or as much and comes before it
abbrev pub is_ahead : Option Offer → Offer → Bool
is_ahead None new = nat_lt 0 new.saved
is_ahead (Some old) new = nat_lt old.saved new.saved
    || (nat_eq new.saved old.saved && is_lt (cubes_cmp new.divisor old.divisor))

-- the new one, where it is better than the best so far, which else stays
abbrev pub leader : Option Offer → Offer → Option Offer
leader best new = if is_ahead best new then Some new else best
