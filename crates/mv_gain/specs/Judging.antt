-- On the way to what a net is judged to be. For private functions.
use Rattle.std.specs.Prelude.{◌≡◌, ◌⊎◌, ℕ, ◌+◌, ◌<◌, ◌≤◌, true, is_some, Option, Some, None, List, slice_get, IfSome}
use Rattle.std.specs.List.{sum_by}
use Rattle.mv_base.specs.declared.number.NetId.{NetId}
use Rattle.mv_composite.specs.declared.inner.Inner.{Inner}
use Rattle.mv_graph.specs.Nets.{IsAscending}
use Rattle.mv_net.specs.declared.parts.FlatNet.{FlatNet}
use Rattle.mv_net.specs.declared.parts.NetParts.{NetParts}
use Rattle.mv_net.specs.Behind.{literals_at}
use Rattle.mv_net.specs.Nets.{slot, table_in, reads_in}
use Rattle.mv_plans.specs.Collapsing.{IsInnerOf, CanCollapse}
use Rattle.mv_gain.specs.declared.judging.Verdict.{Verdict}
use Rattle.mv_gain.specs.declared.judging.Verdict.TheVariants.{Saves, Wide, Stays}
use Rattle.mv_gain.specs.declared.kept.KeptComposites.{KeptComposites}
use Rattle.mv_gain.specs.declared.row.Row.{Row}
use Rattle.mv_gain.specs.Pairs.{kept_at, HasComing}

-- the net at n has a table, and the checks hold but for the composites
pub record CanGo (net : NetParts) (n : ℕ) : Type 0 where
  pub tabled : is_some (table_in (slot net.nets n)) ≡ true
  pub can : CanCollapse net n

-- this is the net at n as composites ask for it
pub record IsAsked (nets : List (Option FlatNet)) (n : ℕ) (inner : Inner) : Type 0 where
  pub of_net : inner.net.0 ≡ n
  pub known : IsInnerOf nets inner

-- it is that, if it has been made
abbrev pub IsMade : List (Option FlatNet) → ℕ → Option Inner → Type 0
IsMade nets n made = IfSome made (IsAsked nets n)

-- some reader's composite with the net n is kept as too wide
pub record HasWide (kept : KeptComposites) (n : ℕ) : Type 0 where
  pub reader : ℕ
  pub wide : HasComing kept n reader None

-- those of all its readers are kept
pub record IsComplete (nets : List (Option FlatNet)) (n : ℕ) (kept : KeptComposites) : Type 0 where
  pub each : (m : ℕ) → reads_in nets m n ≡ true → is_some (kept_at kept n m) ≡ true

-- as many are kept as are needed
abbrev pub IsFilled : List (Option FlatNet) → ℕ → KeptComposites → Type 0
IsFilled nets n kept = HasWide kept n ⊎ IsComplete nets n kept

-- the net n and its readers have so many literals
pub record IsMost (nets : List (Option FlatNet)) (n : NetId) (most : ℕ) : Type 0 where
  pub readers : List NetId
  pub all : IsAscending (λ m. reads_in nets m n.0) readers
  pub sum : most ≡ literals_at nets n + sum_by (literals_at nets) readers

-- there is a limit, and the composites of the net n that are kept have more literals
pub record IsOver (kept : KeptComposites) (n : ℕ) (most : Option ℕ) : Type 0 where
  pub row : Row
  pub at : slice_get kept.nets.items n ≡ Some row
  pub limit : ℕ
  pub limit_is : most ≡ Some limit
  pub over : limit < row.coming

-- as many are kept as are needed where the limit says that no more are
abbrev pub IsEnough : List (Option FlatNet) → ℕ → Option ℕ → KeptComposites → Type 0
IsEnough nets n most kept = IsOver kept n most ⊎ IsFilled nets n kept

-- what the sums of a row say, where the net itself has so many literals
abbrev pub IsWeighed : Row → ℕ → Verdict → Type 0
IsWeighed row own Saves = (row.wide ≡ 0) × (row.coming ≤ row.going + own)
IsWeighed row own Wide = 0 < row.wide
IsWeighed row own Stays = (row.wide ≡ 0) × (row.going + own < row.coming)
