-- The relation of a net's table as a set of points.
use Rattle.std.specs.Prelude.{◌≡◌, ◌<◌, ◌&&◌, ◌||◌, ℕ, Bool, true, false, not, nat_eq, Option, Some, None, List, length, slice_index}
use Rattle.std.specs.List.{list_any}
use Rattle.mv_base.specs.Set.{empty}
use Rattle.mv_cover.specs.declared.line.Line.{Line}
use Rattle.mv_cover.specs.declared.cover.Cover.{Cover}
use Rattle.mv_cover.specs.Cubes.{matches}
use Rattle.mv_cover.specs.Covers.{some_matches}
use Rattle.mv_diagram.specs.Sets.{Point}
use Rattle.mv_diagram.specs.Diagrams.{Contents, HasNoRoom}
use Rattle.mv_net.specs.declared.parts.FlatNet.{FlatNet}
use Rattle.mv_net.specs.Nets.{slot, values_in, reads_in}
use Rattle.mv_net.specs.Allowed.{net_allows}
use Rattle.mv_relation.specs.declared.stop.RelationStop.{RelationStop}
use Rattle.mv_relation.specs.declared.stop.RelationStop.TheVariants.{Nodes, Memory}

-- the assignment of a point: each net has the value of the variable that the list has at its number
abbrev pub assigned : List ℕ → Point → ℕ → ℕ
assigned vars p n = p (slice_index vars n)

-- whether a net's value is one of its own, and its table allows it, at a point
abbrev pub in_relation : List (Option FlatNet) → List ℕ → ℕ → Point → Bool
in_relation nets vars n p = net_allows (slot nets n) (assigned vars p) (assigned vars p n)

-- the list has a variable for the net, with as many values
pub record HasVar (nets : List (Option FlatNet)) (counts vars : List ℕ) (n : ℕ) : Type 0 where
  pub listed : n < length vars
  pub within : slice_index vars n < length counts
  pub count : slice_index counts (slice_index vars n) ≡ values_in (slot nets n)

-- it has one for n and each net that n reads, and for no two of them the same
pub record HasVars (nets : List (Option FlatNet)) (counts vars : List ℕ) (n : ℕ) : Type 0 where
  pub own : HasVar nets counts vars n
  pub fanins : (m : ℕ) → reads_in nets n m ≡ true → HasVar nets counts vars m
  pub beside : (m : ℕ) → reads_in nets n m ≡ true → slice_index vars m ≡ slice_index vars n
      → m ≡ n
  pub apart : (m k : ℕ) → reads_in nets n m ≡ true → reads_in nets n k ≡ true
      → slice_index vars m ≡ slice_index vars k → m ≡ k

-- the list has a variable for each net that passes the test, for no two of them the same, and for
-- none this one
pub record AreApart (counts vars : List ℕ) (own : ℕ) (reads : ℕ → Bool) : Type 0 where
  pub listed : (m : ℕ) → reads m ≡ true → m < length vars
  pub within : (m : ℕ) → reads m ≡ true → slice_index vars m < length counts
  pub beside : (m : ℕ) → reads m ≡ true → slice_index vars m ≡ own → ⊥
  pub differ : (m k : ℕ) → reads m ≡ true → reads k ≡ true
      → slice_index vars m ≡ slice_index vars k → m ≡ k

-- the output has a value
abbrev pub has_some : Option ℕ → Bool
has_some None = false
has_some (Some out) = not (nat_eq out empty)

-- whether the cover allows some value where the fanins have the values of the assignment
abbrev pub chooses : Cover → (ℕ → ℕ) → Bool
chooses c at =
    list_any (λ (l : Line). matches at l.cube && has_some (Some l.out)) c.lines
    || (not (some_matches at c.lines) && has_some c.default)

-- why there is no relation: as many nodes are held as there is room for, or memory is wanting
abbrev pub IsRelationStop : Contents → RelationStop → Type 0
IsRelationStop c (Nodes stop) = HasNoRoom c stop
IsRelationStop c Memory = Unit {0}
