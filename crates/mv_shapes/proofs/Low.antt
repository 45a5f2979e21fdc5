-- The covers of a table over places have literals over its columns' places and its mark's alone.
use Rattle.std.proofs.Common.{◌≡◌, ℕ, ◌<◌, cond, nat_lt, Option, Some, None, IfSome, List, [], ◌∷◌, ◌++◌, map, inl, inr, sym, ◌∙◌, subst, arith, ne_eqb, All}
use Rattle.std.proofs.lemmas.Bool.{cases_lt, ltb-true, lt-ltb, le-ltb}
use Rattle.std.proofs.lemmas.List.Elements.{All-nil, All-cons, All-head, All-tail, All-append, All-weaker, All-map}
use Rattle.mv_base.specs.Set.{empty}
use Rattle.mv_base.specs.declared.number.NetId.{NetId}
use Rattle.mv_base.proofs.Sets.{has-full}
use Rattle.mv_cover.specs.Literal.{Lit}
use Rattle.mv_cover.specs.declared.line.Line.{Line}
use Rattle.mv_cover.specs.declared.cover.Cover.{Cover}
use Rattle.mv_cover.proofs.Absorbing.{all-firsts}
use Rattle.mv_cover.proofs.Members.{member_of}
use Rattle.mv_design.specs.declared.table.Entry.{Entry}
use Rattle.mv_design.specs.declared.table.Row.{Row}
use Rattle.mv_design.specs.declared.table.FileTable.{FileTable}
use Rattle.mv_rows.specs.declared.column.Column.{Column}
use Rattle.mv_rows.specs.declared.table.FlatTable.{FlatTable}
use Rattle.mv_rows.specs.Cubes.{CountBy, AreColumns, IsPart, AreParts}
use Rattle.mv_rows.specs.Flat.{only_entry, RowsLines, kept, default_left, plain_default, mark_line, mark_cover, with_mark, marked_sets, unmarked, FlatBy, FlatOf, IsMade}
use Rattle.mv_rows.proofs.Kept.{all-kept}
use Rattle.mv_rows.proofs.Over.{IsOver, RowSays, entry-over, rows-over, says_any}
use Rattle.mv_shapes.specs.Shape.{IsLowLine, IsLowCover, IsLowFlat}

-- no values at the end and behind it
abbrev below : (ℕ → ℕ) → ℕ → ℕ → ℕ
below count end k = cond (nat_lt k end) (count k) 0

abbrev IsBelow : ℕ → Column → Type 0
IsBelow end c = c.net.0 < end

counts_below : (count : ℕ → ℕ) (end : ℕ) (cs : List Column) → CountBy count cs → All (IsBelow end) cs → CountBy (below count end) cs
counts_below count end [] by low = All-nil _
counts_below count end (c ∷ cs) by low =
    let P : Column → Type 0 = λ d. d.count ≡ count d.net.0 in
    let Q : Column → Type 0 = λ d. d.count ≡ below count end d.net.0 in
    All-cons Q c cs (rw (lt-ltb c.net.0 end (All-head (IsBelow end) c cs low)) (All-head P c cs by))
    (counts_below count end cs (All-tail P c cs by) (All-tail (IsBelow end) c cs low))

-- a net without values has no part of them
no_part : (set : ℕ) → IsPart 0 set → ⊥
no_part set part =
    let m = member_of set (ne_eqb set empty part.values.some) in
    let low = ltb-true m.0 0 (sym (has-full 0 m.0) ∙ part.values.within m.0 m.1) in
    absurd (omega (arith, low))

lits_low : (count : ℕ → ℕ) (end : ℕ) (cube : List Lit) → AreParts (below count end) cube → All (λ (l : Lit). l.net.0 < end) cube
lits_low count end [] parts = All-nil _
lits_low count end (l ∷ ls) parts =
    elim (cases_lt l.net.0 end) [
      | inl low ↦ All-cons (λ (m : Lit). m.net.0 < end) l ls low (lits_low count end ls parts.1)
      | inr high ↦ absurd (no_part l.set (rw (le-ltb l.net.0 end high) at parts.0))
    ]

abbrev Any : ℕ → Type 0
Any s = Unit {0}

-- lines over columns below the end
over_low : (count : ℕ → ℕ) (end : ℕ) (ls : List Line) → All (IsOver (below count end) Any) ls → All (IsLowLine end) ls
over_low count end ls over = All-weaker (IsOver (below count end) Any) (IsLowLine end) (λ l is. lits_low count end l.cube is.parts) ls over

rows_say : (cs : List Column) (rows : List Row) → All (RowSays Any cs) rows
rows_say cs [] = All-nil _
rows_say cs (r ∷ rows) = All-cons (RowSays Any cs) r rows (says_any cs (only_entry r.outs)) (rows_say cs rows)

rows_low : (end : ℕ) (cs : List Column) (rows : List Row) (ls : List Line) → AreColumns cs → All (IsBelow end) cs → RowsLines cs rows ls → All (IsLowLine end) ls
rows_low end cs rows ls columns low are =
    over_low columns.count end ls
    (rows-over (below columns.count end) Any cs rows ls (counts_below columns.count end cs columns.counts low) are (rows_say cs rows))

kept_low : (end : ℕ) (ls : List Line) → All (IsLowLine end) ls → All (IsLowLine end) (kept ls)
kept_low end ls low = all-kept (IsLowLine end) (IsLowLine end) (λ l said h. h) ls low

marks_low : (end : ℕ) (ls : List Line) → All (IsLowLine end) ls → IsLowCover end (mark_cover ls)
marks_low end ls low = all-firsts (IsLowLine end) (map mark_line ls) (All-map (IsLowLine end) mark_line ls low)

unmarked_low : (end : ℕ) (ls : List Line) (d : Option ℕ) → All (IsLowLine end) ls → IsLowFlat end (unmarked ls d)
unmarked_low end ls d low = record { cover = kept_low end ls low; mark = tt }

-- the columns and the mark are such, and below the end
pub record AreBelow (end : ℕ) (cs : List Column) (mark : NetId) : Type 0 where
  pub columns : AreColumns cs
  pub with_mark : AreColumns (with_mark cs mark)
  pub low : All (λ (c : Column). c.net.0 < end) cs
  pub low_mark : mark.0 < end

marked_below : (end : ℕ) (cs : List Column) (mark : NetId) → AreBelow end cs mark → All (IsBelow end) (with_mark cs mark)
marked_below end cs mark b =
    let m : Column = record { net = mark; count = 2 } in
    All-append (IsBelow end) cs (m ∷ []) b.low (All-cons (IsBelow end) m [] b.low_mark (All-nil (IsBelow end)))

by_low : (end : ℕ) (cs : List Column) (mark : NetId) (ls : List Line) (e : Entry) (o : Option ℕ) (flat : FlatTable) → AreBelow end cs mark → All (IsLowLine end) ls → FlatBy cs mark ls e o flat → IsLowFlat end flat
by_low end cs mark ls e None flat b low h =
    let both = with_mark cs mark in
    let count = b.with_mark.count in
    let added : All (IsLowLine end) h.added =
    over_low count end h.added
    (entry-over (below count end) Any both (marked_sets cs) e h.added (counts_below count end both b.with_mark.counts (marked_below end cs mark b)) h.are (says_any both e)) in
    let P : Cover → Type 0 = IsLowCover end in
    let Q : Option Cover → Type 0 = λ o. IfSome o (IsLowCover end) in
    record {
      cover = subst P (sym h.cover_is) (kept_low end (ls ++ h.added) (All-append (IsLowLine end) ls h.added low added));
      mark = subst Q (sym h.mark_is) (marks_low end ls low);
    }
by_low end cs mark ls e (Some s) flat b low h = subst (IsLowFlat end) (sym h) (unmarked_low end ls (Some s) low)

of_low : (end : ℕ) (cs : List Column) (mark : NetId) (ls : List Line) (o : Option Entry) (flat : FlatTable) → AreBelow end cs mark → All (IsLowLine end) ls → FlatOf cs mark ls o flat → IsLowFlat end flat
of_low end cs mark ls None flat b low h = subst (IsLowFlat end) (sym h) (unmarked_low end ls None low)
of_low end cs mark ls (Some e) flat b low h = by_low end cs mark ls e (plain_default e ls) flat b low h

pub made_low : (end : ℕ) (cs : List Column) (t : FileTable) (mark : NetId) (flat : FlatTable) → AreBelow end cs mark → IsMade cs t mark flat → IsLowFlat end flat
made_low end cs t mark flat b made =
    of_low end cs mark made.lines (default_left t.default made.lines) flat b (rows_low end cs t.rows made.lines b.columns b.low made.are) made.covers
