-- What a network saves where all of its tables are divided by one common divisor.
use Rattle.std.specs.Prelude.{◌≡◌, ◌<◌, ◌+◌, ℕ, false, Option, Some, None, List, [], ◌∷◌, map, slice_index_or}
use Rattle.mv_base.specs.declared.number.NetId.{NetId}
use Rattle.mv_cover.specs.Literal.{Lit}
use Rattle.mv_cover.specs.Covers.{literal_count}
use Rattle.mv_cover.specs.declared.line.Line.{Line}
use Rattle.mv_cover.specs.declared.cover.Cover.{Cover}
use Rattle.mv_net.specs.declared.parts.FlatNet.{FlatNet}
use Rattle.mv_net.specs.Nets.{slot, table_in}
use Rattle.mv_graph.specs.Nets.{has_id}
use Rattle.mv_divide.specs.declared.part.Part.{Part}
use Rattle.mv_divide.specs.Tables.{parts_of}
use Rattle.mv_saving.specs.Saving.{IsSaving, literals}

-- the lines of a table, and none where there is no table
abbrev pub lines_in : Option Cover → List Line
lines_in None = []
lines_in (Some c) = c.lines

-- the lines of a net's table
abbrev pub lines_at : Option FlatNet → List Line
lines_at f = lines_in (table_in f)

-- the covers of a net's table
abbrev pub covers_at : Option FlatNet → List Part
covers_at f = parts_of (lines_at f)

-- a number for the first of a list, and the sum of those for the others
pub record IsFirstSum {X : Type 0} (Is : X → ℕ → Type 0) (Rest : ℕ → Type 0) (x : X) (total : ℕ)
    : Type 0 where
  pub first : ℕ
  pub is : Is x first
  pub rest : ℕ
  pub others : Rest rest
  pub sum : total ≡ first + rest

-- the sum of numbers, of which one `Is` of each of the list
abbrev pub IsSum : {X : Type 0} → (X → ℕ → Type 0) → List X → ℕ → Type 0
IsSum Is [] total = total ≡ 0
IsSum Is (x ∷ xs) total = IsFirstSum Is (IsSum Is xs) x total

-- what dividing the covers of a table with these lines by the divisor saves
pub record IsTableSaving (lines : List Line) (divisor : List (List Lit)) (saved : ℕ) : Type 0 where
  pub sum : IsSum (λ (p : Part) (s : ℕ). IsSaving p.cover divisor s) (parts_of lines) saved

-- the table's literals are those of the new lines and what dividing it by the divisor saves
pub record LeavesLess (lines : List Line) (divisor : List (List Lit)) (new : List Line)
    : Type 0 where
  pub saved : ℕ
  pub is : IsTableSaving lines divisor saved
  pub less : literal_count lines ≡ literal_count new + saved

-- what dividing all tables of the network by the divisor saves, whose own literals aren't counted
pub record IsGain (nets : List (Option FlatNet)) (divisor : List (List Lit)) (gain : ℕ)
    : Type 0 where
  pub sum : IsSum (λ (f : Option FlatNet) (s : ℕ). IsTableSaving (lines_at f) divisor s) nets gain

-- what adding the divisor and dividing all tables by it saves, where that is something: the
-- literals of the network now are those after it and so many more
pub record Saves (nets : List (Option FlatNet)) (divisor : List (List Lit)) (saved : ℕ)
    : Type 0 where
  pub gain : ℕ
  pub is : IsGain nets divisor gain
  pub some : 0 < saved
  pub less : gain ≡ literals divisor + saved

-- the cubes of the lines of a net's table
abbrev pub cubes_at : Option FlatNet → List (List Lit)
cubes_at f = map (λ (l : Line). l.cube) (lines_at f)

-- what is kept of the nets' tables is this, but for the ones that wait
pub record AreTablesBut {X : Type 0} (kept_of : Option FlatNet → List X) (waiting : List NetId)
    (nets : List (Option FlatNet)) (tables : List (List X)) : Type 0 where
  pub same : (n : ℕ) → has_id waiting n ≡ false
      → kept_of (slot nets n) ≡ slice_index_or tables n []
