-- The literals of composites that are kept, for pairs of a net and a reader, and what a net is
-- judged to be.
use Rattle.std.specs.Prelude.{◌≡◌, ℕ, ◌≤◌, false, Option, Some, None, List, length}
use Rattle.mv_composite.specs.declared.inner.Inner.{Inner}
use Rattle.mv_net.specs.declared.parts.FlatNet.{FlatNet}
use Rattle.mv_net.specs.declared.parts.NetParts.{NetParts}
use Rattle.mv_net.specs.Nets.{slot, values_in, table_in, table_literals, reads_in}
use Rattle.mv_plans.specs.Collapsing.{IsInnerOf}
use Rattle.mv_plans.specs.Composites.{HasCompositeLiterals, HasWideComposite}
use Rattle.mv_gain.specs.declared.judging.Verdict.{Verdict}
use Rattle.mv_gain.specs.declared.judging.Verdict.TheVariants.{Saves, Wide, Stays}
use Rattle.mv_gain.specs.declared.kept.KeptComposites.{KeptComposites}
use Rattle.mv_gain.specs.declared.row.Pair.{Pair}
use Rattle.mv_gain.specs.Pairs.{kept_at, AreSummed}
use Rattle.mv_gain.specs.Savings.{IsSaving, IsWideNet}
use Rattle.mv_gain.specs.Sums.{IsSmallPair}

-- the composite of the reader m with the net n has so many literals
pub record HasLiterals (nets : List (Option FlatNet)) (n m count : ℕ) : Type 0 where
  pub inner : Inner
  pub of_net : inner.net.0 ≡ n
  pub known : IsInnerOf nets inner
  pub counted : HasCompositeLiterals nets inner m count

-- it is too wide
pub record IsWidePair (nets : List (Option FlatNet)) (n m : ℕ) : Type 0 where
  pub inner : Inner
  pub of_net : inner.net.0 ≡ n
  pub known : IsInnerOf nets inner
  pub wide : HasWideComposite nets inner m

-- what is told of a composite: its literals, and none where it is too wide
abbrev pub IsComposite : List (Option FlatNet) → ℕ → ℕ → Option ℕ → Type 0
IsComposite nets n m None = IsWidePair nets n m
IsComposite nets n m (Some count) = HasLiterals nets n m count

-- what is kept of the net n and its reader m: the composite, and the literals of the reader
pub record IsPair (nets : List (Option FlatNet)) (n m : ℕ) (pair : Pair) : Type 0 where
  pub coming : IsComposite nets n m pair.coming
  pub going : pair.going ≡ table_literals (table_in (slot nets m))
  pub small : IsSmallPair pair

-- what is kept is so of these nets, with its sums, and there is room for each of them
pub record AreRight (nets : List (Option FlatNet)) (kept : KeptComposites) : Type 0 where
  pub each : (n m : ℕ) (it : Pair) → kept_at kept n m ≡ Some it → IsPair nets n m it
  pub summed : AreSummed kept
  pub long : length nets ≤ length kept.nets.items

-- but for the net n, each net that doesn't read it is as it was, and each has the values that it
-- had
pub record LeavesAlone (old new : List (Option FlatNet)) (n : ℕ) : Type 0 where
  pub long : length new ≡ length old
  pub same : (k : ℕ) → (k ≡ n → ⊥) → reads_in old k n ≡ false → slot new k ≡ slot old k
  pub values : (k : ℕ) → (k ≡ n → ⊥) → values_in (slot new k) ≡ values_in (slot old k)

-- it is so where the net n goes, or goes into its readers
pub record RightBehind (net : NetParts) (n : ℕ) (kept : KeptComposites) : Type 0 where
  pub each : (new : NetParts) → LeavesAlone net.nets new.nets n → AreRight new.nets kept

-- what a net is judged to be
abbrev pub IsJudged : NetParts → ℕ → Verdict → Type 0
IsJudged net n Saves = IsSaving net n
IsJudged net n Wide = IsWideNet net n
IsJudged net n Stays = (IsSaving net n → ⊥) × (IsWideNet net n → ⊥)
