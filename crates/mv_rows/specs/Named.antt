-- Rows whose entry names a column: rows of one cube and one such column have the same lines.
use Rattle.std.specs.Prelude.{◌≡◌, ℕ, Bool, true, ◌&&◌, nat_eq, List, ◌++◌, All}
use Rattle.std.proofs.Common.{ap, Decides}
use Rattle.std.specs.List.{list_any}
use Rattle.std.specs.Cmp.{IsEquivalence, IsPartialEquivalence, partial_equiv_from_equiv, decided, unsigned_Decides}
use Rattle.std.specs.Hash as fed
use Rattle.std.specs.Hash.{HashWrites}
use Rattle.std.proofs.lemmas.Bool.{and_parts, and_from}
use Rattle.mv_cover.specs.Equal.{cube_eq, line_eq, cube_fed}
use Rattle.mv_cover.specs.Keys.{cube_eq-Decides}
use Rattle.mv_cover.specs.declared.line.Line.{Line}
use Rattle.mv_rows.specs.declared.column.Column.{Column}
use Rattle.mv_rows.specs.declared.named.NamedRow.{NamedRow}
use Rattle.mv_rows.specs.Cubes.{FitRow, IsRowCube}
use Rattle.mv_rows.specs.Lines.{EachValue, count_at}

-- the same cube and the same column
abbrev pub named_eq : NamedRow → NamedRow → Bool
named_eq a b = cube_eq a.cube b.cube && nat_eq a.place b.place

-- what a hash is fed with: the cube, then the place of the column
abbrev pub named_fed : NamedRow → HashWrites
named_fed r = cube_fed r.cube ++ fed.u32 r.place

-- the test of equality decides it: the laws by which such rows can be keys
pub named_eq-Decides : (a b : NamedRow) → Decides (named_eq a b) (a ≡ b)
named_eq-Decides a b = (
  λ h. let p = and_parts (cube_eq a.cube b.cube) (nat_eq a.place b.place) h in
      let c = (cube_eq-Decides a.cube b.cube).0 p.0 in
      let k = (unsigned_Decides a.place b.place).0 p.1 in
      λ i. record { cube = c i; place = k i },
  λ e. and_from (cube_eq a.cube b.cube) (nat_eq a.place b.place)
      ((cube_eq-Decides a.cube b.cube).1 (ap (λ (r : NamedRow). r.cube) e))
      ((unsigned_Decides a.place b.place).1 (ap (λ (r : NamedRow). r.place) e)),
)

pub named_eq-equiv : IsEquivalence named_eq
named_eq-equiv = decided named_eq named_eq-Decides

pub named_eq-partial_equiv : IsPartialEquivalence named_eq
named_eq-partial_equiv = partial_equiv_from_equiv named_eq-equiv

-- equal rows feed a hash alike
pub named_fed-same : (a b : NamedRow) → named_eq a b ≡ true → named_fed a ≡ named_fed b
named_fed-same a b h = ap named_fed ((named_eq-Decides a b).0 h)

-- the lines of each row with this cube whose entry names this column stand among these
pub record HasLinesAmong (columns : List Column) (lines : List Line) (r : NamedRow) : Type 0 where
  pub here : List Line
  pub are : (sets : List ℕ) → FitRow columns sets → IsRowCube columns sets r.cube
      → EachValue columns sets r.place (count_at columns r.place) here
  pub there : All (λ (l : Line). list_any (line_eq l) lines ≡ true) here

-- and so do those of all of these
abbrev pub HaveLinesAmong : List Column → List Line → List NamedRow → Type 0
HaveLinesAmong columns lines rows = All (HasLinesAmong columns lines) rows
