-- Pairs of a net and its readers, and their sums. For private functions.
use Rattle.std.specs.Prelude.{◌≡◌, ℕ, ◌^◌, ◌≤◌, is_some, unwrap_or, if◌then◌else◌}
use Rattle.std.specs.List.{sum_by}
use Rattle.std.specs.BTreeMap.{values, IsOrdered}
use Rattle.std.specs.Ordering.{nat_cmp}
use Rattle.mv_gain.specs.declared.row.Pair.{Pair}
use Rattle.mv_gain.specs.declared.row.Row.{Row}

-- the literals that come with the composite, none where it is too wide
abbrev pub coming_of : Pair → ℕ
coming_of pair = unwrap_or pair.coming 0

-- 1 where it is too wide
abbrev pub wide_of : Pair → ℕ
wide_of pair = if is_some pair.coming then 0 else 1

-- the sums are those of the pairs, whose readers ascend
pub record IsSummed (row : Row) : Type 0 where
  pub coming : row.coming ≡ sum_by coming_of (values row.pairs)
  pub going : row.going ≡ sum_by (λ (pair : Pair). pair.going) (values row.pairs)
  pub wide : row.wide ≡ sum_by wide_of (values row.pairs)
  pub ordered : IsOrdered nat_cmp row.pairs

-- a table has no more literals than this
pub record IsSmallPair (pair : Pair) : Type 0 where
  pub coming : coming_of pair ≤ 2 ^ 96
  pub going : pair.going ≤ 2 ^ 96

-- one more pair can be added
pub record IsSmall (row : Row) : Type 0 where
  pub coming : row.coming ≤ 2 ^ 126
  pub going : row.going ≤ 2 ^ 126
  pub wide : row.wide ≤ 2 ^ 30

-- the same pairs with the same sums
pub record HasSame (old new : Row) : Type 0 where
  pub pairs : new.pairs ≡ old.pairs
  pub coming : new.coming ≡ old.coming
  pub going : new.going ≡ old.going
  pub wide : new.wide ≡ old.wide
