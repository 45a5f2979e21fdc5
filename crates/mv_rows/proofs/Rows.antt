-- The lines of the rows, row after row, and the row of the default.
use Rattle.std.proofs.Common.{◌≡◌, ℕ, ◌+◌, ◌<◌, List, [], ◌∷◌, ◌++◌, length, get_or, take, append-nil, append_assoc, refl, sym, ◌∙◌, ap, subst, arith}
use Rattle.std.proofs.lemmas.List.{take_more}
use Rattle.mv_base.specs.declared.number.NetId.{NetId}
use Rattle.mv_base.proofs.Sets.{has-one, has-full}
use Rattle.std.proofs.lemmas.Bool.{eqb-true, lt-ltb}
use Rattle.mv_cover.specs.declared.line.Line.{Line}
use Rattle.mv_design.specs.declared.table.Entry.{Entry}
use Rattle.mv_design.specs.declared.table.Row.{Row}
use Rattle.mv_rows.specs.declared.column.Column.{Column}
use Rattle.mv_rows.specs.Cubes.{FitRow}
use Rattle.mv_rows.specs.Lines.{AddsLines, EntryLines}
use Rattle.mv_rows.specs.Flat.{only_entry, RowsLines, with_mark, marked_sets}

rows_push : (cs : List Column) (rows : List Row) (r : Row) (ls here : List Line) → RowsLines cs rows ls → EntryLines cs r.ins (only_entry r.outs) here → RowsLines cs (rows ++ r ∷ []) (ls ++ here)
rows_push cs [] r ls here are h = record {
  before = here;
  here = [];
  are_before = h;
  are_here = refl;
  joined = ap (λ x. x ++ here) are ∙ sym (append-nil here);
}
rows_push cs (q ∷ rows) r ls here are h = record {
  before = are.before;
  here = are.here ++ here;
  are_before = are.are_before;
  are_here = rows_push cs rows r are.here here are.are_here h;
  joined = ap (λ x. x ++ here) are.joined ∙ append_assoc are.before are.here here;
}

-- one row more
pub rows_more : (cs : List Column) (rows : List Row) (i : ℕ) (r : Row) (sets : List ℕ) (e : Entry) (a b : List Line) → i < length rows → r ≡ get_or rows i r → sets ≡ r.ins → e ≡ only_entry r.outs → RowsLines cs (take i rows) a → AddsLines (EntryLines cs sets e) a b → RowsLines cs (take (i + 1) rows) b
rows_more cs rows i r sets e a b low is ins entry are adds =
    let here : EntryLines cs r.ins (only_entry r.outs) adds.here =
    subst (λ (f : Entry). EntryLines cs r.ins f adds.here) entry (subst (λ (s : List ℕ). EntryLines cs s e adds.here) ins adds.are) in
    let pushed = rows_push cs (take i rows) r a adds.here are here in
    let taken : take i rows ++ r ∷ [] ≡ take (i + 1) rows = ap (λ (q : Row). take i rows ++ q ∷ []) is ∙ sym (take_more rows i r low) in
    subst (RowsLines cs (take (i + 1) rows)) (sym adds.joined) (subst (λ (rs : List Row). RowsLines cs rs (a ++ adds.here)) taken pushed)

-- the row of the default fits the columns and the mark
pub fit_marked : (cs : List Column) (mark : NetId) → FitRow (with_mark cs mark) (marked_sets cs)
fit_marked [] mark = ((λ v h. has-full 2 v ∙ lt-ltb v 2 (let e : v ≡ 1 = eqb-true v 1 (sym (has-one 1 v) ∙ h) in omega arith)), tt)
fit_marked (c ∷ cs) mark = ((λ v h. h), fit_marked cs mark)
