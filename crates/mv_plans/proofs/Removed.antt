-- The rule `remove`: its change, that what it leaves is well formed, and that it means the same.
use Rattle.std.proofs.Common.{◌≡◌, ℕ, ◌≤◌, List, [], ◌∷◌, length, is_some, sym, ap, subst, arith}
use Rattle.mv_base.specs.Meaning.{SameMeaning}
use Rattle.mv_base.specs.declared.limits.TheConstants.{MAX_NETS}
use Rattle.mv_base.specs.declared.number.NetId.{NetId}
use Rattle.mv_net.specs.declared.change.Change.{Change}
use Rattle.mv_net.specs.declared.parts.NetParts.{NetParts}
use Rattle.mv_net.specs.Allowed.{of_net}
use Rattle.mv_net.specs.Changes.{changed}
use Rattle.mv_net.specs.Formed.{WellFormed}
use Rattle.mv_net.specs.Total.{IsRemovable}
use Rattle.mv_net.proofs.Changed.{changed-gone}
use Rattle.mv_net.proofs.Fitting.{fits_gone}
use Rattle.mv_net.proofs.Removal.{removal_formed, removal_means}
use Rattle.mv_plans.specs.Checks.{IsTabled}
use Rattle.mv_plans.specs.Plans.{IsPlanned}
use Rattle.mv_plans.specs.Removing.{Removes}

-- the change by which the net goes
abbrev leaving : NetId → Change
leaving n = record { add = []; set = []; values = []; gone = n ∷ [] }

pub removes : (net : NetParts) (w : List ℕ) (n : NetId) → IsTabled net.nets w n.0 → IsRemovable net n.0 → Removes net w (changed net (leaving n))
removes net w n tabled can = record {
  number = n.0;
  net = tabled;
  unseen = record { unseen = can.unseen };
  unread = record { unread = can.unread };
  total = can.total;
  new_is = changed-gone net n;
}

pub planned : (net : NetParts) (w : List ℕ) (n : NetId) (change : Change) → WellFormed net → length net.nets ≤ MAX_NETS → IsTabled net.nets w n.0 → IsRemovable net n.0
    → change ≡ leaving n → IsPlanned net (Removes net w) change
planned net w n change formed few tabled can is = subst (IsPlanned net (Removes net w)) (sym is) (record {
  few = omega (arith, few);
  fits = fits_gone net n (ap is_some can.total.held);
  formed = subst WellFormed (sym (changed-gone net n)) (removal_formed net n.0 formed can);
  makes = removes net w n tabled can;
})

pub removed_formed : (old : NetParts) (w : List ℕ) (new : NetParts) → WellFormed old → Removes old w new → WellFormed new
removed_formed old w new formed r =
    subst WellFormed (sym r.new_is) (removal_formed old r.number formed (record { unseen = r.unseen.unseen; unread = r.unread.unread; total = r.total }))

pub removed_means : (old : NetParts) (w : List ℕ) (new : NetParts) → WellFormed old → Removes old w new → SameMeaning (of_net new) (of_net old)
removed_means old w new formed r =
    let P : NetParts → Type 0 = λ p. SameMeaning (of_net p) (of_net old) in
    subst P (sym r.new_is) (removal_means old r.number formed (record { unseen = r.unseen.unseen; unread = r.unread.unread; total = r.total }))
