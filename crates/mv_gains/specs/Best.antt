-- What private functions alone cite: the best of the candidates so far.
use Rattle.std.specs.Prelude.{◌≡◌, ◌<◌, ◌≤◌, ◌-◌, ℕ, Bool, ◌&&◌, ◌||◌, nat_lt, nat_eq, Option, Some, None, List, [], slice_get, slice_index_or, if◌then◌else◌, All, Contains}
use Rattle.std.specs.Ordering.{is_lt}
use Rattle.std.specs.declared.cmp.Ordering.TheVariants.{Greater}
use Rattle.mv_cover.specs.Literal.{Lit}
use Rattle.mv_kernels.specs.Order.{cubes_cmp}
use Rattle.mv_divide.specs.declared.part.Part.{Part}
use Rattle.mv_saving.specs.Saving.{literals}
use Rattle.mv_gains.specs.declared.best.Best.{Best}
use Rattle.mv_gains.specs.Tables.{IsTablesGain}

-- what adding the divisor and dividing the tables by it saves, and 0 where that is nothing
pub record IsSaved (tables : List (List Part)) (divisor : List (List Lit)) (saved : ℕ)
    : Type 0 where
  pub gain : ℕ
  pub is : IsTablesGain tables divisor gain
  pub less : saved ≡ gain - literals divisor

-- it saves so much, and no other number is what it saves
pub record IsOnlySaved (tables : List (List Part)) (divisor : List (List Lit)) (saved : ℕ)
    : Type 0 where
  pub is : IsSaved tables divisor saved
  pub only : (s : ℕ) → IsSaved tables divisor s → s ≡ saved

-- d saves no more, and if it saves as much it doesn't come before the divisor
pub record IsNoBetter (tables : List (List Part)) (divisor : List (List Lit)) (saved : ℕ)
    (d : List (List Lit)) : Type 0 where
  pub most : (s : ℕ) → IsSaved tables d s → s ≤ saved
  pub least : IsSaved tables d saved → cubes_cmp divisor d ≡ Greater → ⊥

-- the candidate at the place saves so much, and none of those seen is better
pub record IsBestOf (tables : List (List Part)) (list seen : List (List (List Lit))) (best : Best)
    : Type 0 where
  pub divisor : List (List Lit)
  pub at : slice_get list best.place ≡ Some divisor
  pub saved : IsSaved tables divisor best.saved
  pub some : 0 < best.saved
  pub each : All (IsNoBetter tables divisor best.saved) seen

-- one of the list that saves something, and none of the list is better
pub record IsChosen (tables : List (List Part)) (list : List (List (List Lit)))
    (divisor : List (List Lit)) : Type 0 where
  pub there : Contains list divisor
  pub saved : ℕ
  pub is : IsSaved tables divisor saved
  pub some : 0 < saved
  pub each : All (IsNoBetter tables divisor saved) list

-- it saves nothing
pub record SavesNothing (tables : List (List Part)) (d : List (List Lit)) : Type 0 where
  pub none : (s : ℕ) → IsSaved tables d s → s ≡ 0

-- the candidate at the one place comes before that at the other
abbrev pub comes_before : List (List (List Lit)) → ℕ → ℕ → Bool
comes_before list one other =
    is_lt (cubes_cmp (slice_index_or list one []) (slice_index_or list other []))

-- the new one, where it saves more than the best so far, or as much and comes before it
abbrev pub better : List (List (List Lit)) → Option Best → Best → Option Best
better list None new = if nat_lt 0 new.saved then Some new else None
better list (Some old) new =
    if nat_lt old.saved new.saved
    || (nat_eq new.saved old.saved && comes_before list new.place old.place) then Some new
    else Some old
