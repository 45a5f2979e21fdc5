-- What is kept of pairs of a net and a reader, and what is forgotten. For private functions.
use Rattle.std.specs.Prelude.{◌≡◌, ℕ, true, Option, Some, None, is_some, List, length, slice_get}
use Rattle.std.specs.BTreeMap.{get}
use Rattle.std.specs.Ordering.{nat_cmp}
use Rattle.mv_base.specs.declared.number.NetId.{NetId}
use Rattle.mv_graph.specs.Nets.{has_id}
use Rattle.mv_net.specs.declared.parts.FlatNet.{FlatNet}
use Rattle.mv_net.specs.Nets.{reads_in}
use Rattle.mv_gain.specs.declared.kept.KeptComposites.{KeptComposites}
use Rattle.mv_gain.specs.declared.row.Pair.{Pair}
use Rattle.mv_gain.specs.declared.row.Row.{Row}
use Rattle.mv_gain.specs.Sums.{IsSummed}

-- what a row has for a reader
abbrev pub in_row : Option Row → ℕ → Option Pair
in_row None m = None
in_row (Some row) m = get nat_cmp row.pairs m

-- what is kept of the net n and the reader m
unfoldable pub kept_at : KeptComposites → ℕ → ℕ → Option Pair
kept_at kept n m = in_row (slice_get kept.nets.items n) m

-- the sums of each net are those of its pairs
pub record AreSummed (kept : KeptComposites) : Type 0 where
  pub each : (n : ℕ) (row : Row) → slice_get kept.nets.items n ≡ Some row → IsSummed row

-- what is kept now was kept before, and the sums are right if they were
pub record IsPart (old new : KeptComposites) : Type 0 where
  pub each : (n m : ℕ) (it : Pair) → kept_at new n m ≡ Some it → kept_at old n m ≡ Some it
  pub summed : AreSummed old → AreSummed new
  pub long : length new.nets.items ≡ length old.nets.items

-- what was kept before is kept now
pub record KeepsMore (old new : KeptComposites) : Type 0 where
  pub each : (n m : ℕ) (it : Pair) → kept_at old n m ≡ Some it → kept_at new n m ≡ Some it

-- the same is kept
pub record Stays (old new : KeptComposites) : Type 0 where
  pub part : IsPart old new
  pub more : KeepsMore old new

-- a pair of the net n and the reader m is kept with this composite
pub record HasComing (kept : KeptComposites) (n m : ℕ) (coming : Option ℕ) : Type 0 where
  pub pair : Pair
  pub has : kept_at kept n m ≡ Some pair
  pub coming_is : pair.coming ≡ coming

-- nothing is kept of the net n and its readers
pub record LacksNet (kept : KeptComposites) (n : ℕ) : Type 0 where
  pub none : (m : ℕ) → kept_at kept n m ≡ None

-- nothing is kept of these nets and the reader m
pub record LacksReader (kept : KeptComposites) (list : List NetId) (m : ℕ) : Type 0 where
  pub none : (n : ℕ) → has_id list n ≡ true → kept_at kept n m ≡ None

-- nothing is kept of the net n, neither with its readers nor as a reader
pub record IsForgotten (nets : List (Option FlatNet)) (n : ℕ) (kept : KeptComposites) : Type 0 where
  pub itself : LacksNet kept n
  pub fanins : (m : ℕ) → reads_in nets n m ≡ true → kept_at kept m n ≡ None

-- what is kept now was kept before, and it is nothing of the net n
pub record Forgets (nets : List (Option FlatNet)) (n : ℕ) (old new : KeptComposites) : Type 0 where
  pub part : IsPart old new
  pub gone : IsForgotten nets n new

-- nor of these nets
pub record ForgetsEach (nets : List (Option FlatNet)) (n : ℕ) (list : List NetId)
    (old new : KeptComposites) : Type 0 where
  pub first : Forgets nets n old new
  pub each : (m : ℕ) → has_id list m ≡ true → IsForgotten nets m new

-- the pairs of the net n with these readers are kept
pub record AreKept (kept : KeptComposites) (n : ℕ) (list : List NetId) : Type 0 where
  pub each : (m : ℕ) → has_id list m ≡ true → is_some (kept_at kept n m) ≡ true
