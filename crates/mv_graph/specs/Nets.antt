-- Lists of nets, and such lists by number: the list at place n belongs to the net n.
use Rattle.std.specs.Prelude.{◌≡◌, ℕ, ◌<◌, Bool, true, ◌&&◌, not, nat_eq, nat_lt, List, [], ◌∷◌, length, slice_index_or, All}
use Rattle.std.specs.List.{list_any}
use Rattle.mv_base.specs.declared.number.NetId.{NetId}

-- the number stands in the list
abbrev pub has_id : List NetId → ℕ → Bool
has_id ns n = list_any (λ (m : NetId). nat_eq m.0 n) ns

-- no net stands twice in the list
abbrev pub all_differ : List NetId → Bool
all_differ [] = true
all_differ (n ∷ ns) = not (has_id ns n.0) && all_differ ns

-- the numbers ascend
abbrev pub ids_ascend : List NetId → Bool
ids_ascend [] = true
ids_ascend (_ ∷ []) = true
ids_ascend (n ∷ m ∷ ns) = nat_lt n.0 m.0 && ids_ascend (m ∷ ns)

-- the list has exactly the numbers that pass the test, ascending; there is one such list at most
pub record IsAscending (test : ℕ → Bool) (list : List NetId) : Type 0 where
  pub ascending : ids_ascend list ≡ true
  pub members : (n : ℕ) → has_id list n ≡ test n

-- the list at a number, and none past the last
abbrev pub row : List (List NetId) → ℕ → List NetId
row rows n = slice_index_or rows n []

-- each list names only numbers that have a list
abbrev pub AllBelow : List (List NetId) → Type 0
AllBelow rows = All (λ ns. All (λ (c : NetId). c.0 < length rows) ns) rows
