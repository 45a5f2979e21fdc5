-- The names of all nets, gathered place by place, and what is wrong with the next one. For private
-- functions.
use Rattle.std.specs.Prelude.{ℕ, ◌+◌, nat_le, List, [], ◌∷◌, ◌++◌, map, length, if◌then◌else◌}
use Rattle.mv_base.specs.Names.{among}
use Rattle.mv_base.specs.declared.limits.TheConstants.{MAX_FLAT_NETS}
use Rattle.mv_fault.specs.Tells.{when}
use Rattle.mv_fault.specs.declared.fault.Which.TheVariants.{Nets}
use Rattle.mv_fault.specs.declared.flat.FlatFault.{FlatFault}
use Rattle.mv_fault.specs.declared.flat.FlatFault.TheVariants.{NameClash, Limit}
use Rattle.mv_acyclic.specs.Sound.{long_at}

-- what is wrong with a name behind others: it is one too many; it is too long; an earlier net has
-- it
abbrev pub home_fault : ℕ → List (List ℕ) → List ℕ → List FlatFault
home_fault most seen w = if nat_le most (length seen) then Limit Nets (MAX_FLAT_NETS + 1) ∷ []
    else long_at w ++ when (among w seen) (NameClash w)

-- what is wrong with names behind others
abbrev pub rest_faults : ℕ → List (List ℕ) → List (List ℕ) → List FlatFault
rest_faults most seen [] = []
rest_faults most seen (w ∷ ws) = home_fault most seen w ++ rest_faults most (seen ++ w ∷ []) ws

-- names behind a path
abbrev pub under : List ℕ → List (List ℕ) → List (List ℕ)
under path nets = map (λ net. path ++ net) nets
