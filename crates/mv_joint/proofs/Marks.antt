-- The mark's lines of rows that are split, one after the other.
use Rattle.std.proofs.Common.{◌≡◌, ℕ, ◌+◌, ◌<◌, true, false, Option, None, Some, List, [], ◌∷◌, ◌++◌, length, map, get_or, take, drop, refl, sym, ◌∙◌, ap, subst, All}
use Rattle.std.proofs.lemmas.List.{map-append}
use Rattle.std.proofs.lemmas.List.Elements.{All-nil, All-cons, All-tail, All-filter}
use Rattle.mv_base.specs.Set.{one}
use Rattle.mv_base.specs.declared.number.NetId.{NetId}
use Rattle.mv_cover.specs.Absorb.{firsts}
use Rattle.mv_cover.specs.declared.line.Line.{Line}
use Rattle.mv_cover.specs.declared.cover.Cover.{Cover}
use Rattle.mv_design.specs.declared.table.Entry.{Entry}
use Rattle.mv_design.specs.declared.table.Entry.TheVariants.{Set, Same}
use Rattle.mv_design.specs.declared.table.Row.{Row}
use Rattle.mv_design.specs.declared.table.FileTable.{FileTable}
use Rattle.mv_rows.specs.declared.column.Column.{Column}
use Rattle.mv_rows.specs.declared.line_set.LineSet.{LineSet}
use Rattle.mv_rows.specs.declared.stop.RowStop.{RowStop}
use Rattle.mv_rows.specs.declared.stop.RowStop.TheVariants.{Many, Memory}
use Rattle.mv_rows.specs.Cubes.{AreColumns, HasNoPoint, IsRowCube}
use Rattle.mv_rows.specs.Lines.{count_at}
use Rattle.mv_rows.specs.Flat.{IsRow, IsDefault, IsMade, RowsLines}
use Rattle.mv_rows.specs.Many.{StopsAt}
use Rattle.mv_rows.specs.Once.{IsRoom, Puts, StopsPut, PutsRows, StopsRows, StopsLines, AreDistinct}
use Rattle.mv_rows.specs.declared.table.FlatTable.{FlatTable}
use Rattle.mv_rows.proofs.Alike.{listed_distinct}
use Rattle.mv_rows.proofs.LineSets.{puts_none}
use Rattle.mv_rows.proofs.Existing.{puts_no_rows, puts_more_rows, stops_more_rows, stops_early_rows, distinct_rows, many_rows}
use Rattle.mv_joint.specs.declared.split.PlainRow.{PlainRow}
use Rattle.mv_joint.specs.Split.{split, is_possible, rows_of, all_rows, IsFit}
use Rattle.mv_joint.specs.Plain.{IsJointFile, is_joint_marked, mark_of, mark_row, mark_table}
use Rattle.mv_joint.specs.Joint.{IsCoverOf, IsMarkOf, StopsMark}
use Rattle.mv_joint.specs.Gather.{rest_of, PutsFrom}
use Rattle.mv_joint.proofs.Fitting.{split_fit, all_rows_fit}
use Rattle.mv_joint.proofs.Resting.{rests_below, rests_from, rests_none, rests_some, rests_split, rest_same, IsFound}
use Rattle.mv_joint.proofs.Tables.{mark_unmarked}
use Rattle.mv_joint.proofs.Taken.{rows_taken, rows_around}
use Rattle.mv_joint.proofs.Unmarked.{cover_unmarked}

-- ---- rows that fit

marks_fit : (cs : List Column) (rows : List PlainRow) → All (IsFit cs) rows → All (IsRow cs) (map mark_row rows)
marks_fit cs rows all = (mark_unmarked cs rows all).table.rows

fit_behind : (cs : List Column) (a b : List PlainRow) → All (IsFit cs) (a ++ b) → All (IsFit cs) b
fit_behind cs [] b all = all
fit_behind cs (r ∷ a) b all = fit_behind cs a b (All-tail (IsFit cs) r (a ++ b) all)

rest_fit : (cs : List Column) (es : List Entry) (r : PlainRow) → IsFit cs r → All (IsFit cs) (rest_of cs es r)
rest_fit cs es r fit =
    All-filter (is_possible cs) (IsFit cs) (split cs es (r ∷ [])) (split_fit cs es (r ∷ []) (All-cons (IsFit cs) r [] fit (All-nil (IsFit cs))))

-- ---- some rows and some more

puts_marks : (cs : List Column) (a b : List PlainRow) (x y z : LineSet) → PutsRows cs (map mark_row a) x y → PutsRows cs (map mark_row b) y z
    → PutsRows cs (map mark_row (a ++ b)) x z
puts_marks cs a b x y z p q =
    subst (λ ms. PutsRows cs ms x z) (sym (map-append mark_row a b)) (puts_more_rows cs (map mark_row a) (map mark_row b) x y z p q)

-- where the lines of some rows stop, they stop among those of all rows
stops_marks : (cs : List Column) (a b c all : List PlainRow) (x y : LineSet) (stop : RowStop) → AreColumns cs → All (IsFit cs) all → (a ++ b) ++ c ≡ all
    → PutsRows cs (map mark_row a) x y → StopsRows cs (map mark_row b) y stop → StopsRows cs (map mark_row all) x stop
stops_marks cs a b c all x y stop columns fits e p h =
    let behind = marks_fit cs c (fit_behind cs (a ++ b) c (subst (All (IsFit cs)) (sym e) fits)) in
    let parts : map mark_row ((a ++ b) ++ c) ≡ (map mark_row a ++ map mark_row b) ++ map mark_row c =
    map-append mark_row (a ++ b) c ∙ ap (λ ms. ms ++ map mark_row c) (map-append mark_row a b) in
    subst (λ rs. StopsRows cs (map mark_row rs) x stop) e
    (subst (λ ms. StopsRows cs ms x stop) (sym parts)
    (stops_early_rows cs (map mark_row a ++ map mark_row b) (map mark_row c) x stop columns behind
    (stops_more_rows cs (map mark_row a) (map mark_row b) x y stop p h)))

-- ---- an entry that names a column

pub marks_no_value : (cs : List Column) (es : List Entry) (k : ℕ) (r : PlainRow) (v : ℕ) (x y : LineSet) → IsFound cs es k r v None
    → PutsRows cs (map mark_row (rests_below cs es k r v)) x y → PutsRows cs (map mark_row (rests_below cs es k r (v + 1))) x y
marks_no_value cs es k r v x y is p = subst (λ rs. PutsRows cs (map mark_row rs) x y) (sym (rests_none cs es k r v is)) p

pub marks_value : (cs : List Column) (es : List Entry) (k : ℕ) (r : PlainRow) (v : ℕ) (next : PlainRow) (x y z : LineSet) → IsFound cs es k r v (Some next)
    → PutsRows cs (map mark_row (rests_below cs es k r v)) x y → PutsRows cs (map mark_row (rest_of cs es next)) y z
    → PutsRows cs (map mark_row (rests_below cs es k r (v + 1))) x z
marks_value cs es k r v next x y z is p q =
    subst (λ rs. PutsRows cs (map mark_row rs) x z) (sym (rests_some cs es k r v next is))
    (puts_marks cs (rests_below cs es k r v) (rest_of cs es next) x y z p q)

pub stops_value : (cs : List Column) (es : List Entry) (k : ℕ) (r : PlainRow) (v m : ℕ) (next : PlainRow) (x y : LineSet) (stop : RowStop)
    → (v + 1) + m ≡ count_at cs k → IsFound cs es k r v (Some next) → PutsRows cs (map mark_row (rests_below cs es k r v)) x y
    → StopsRows cs (map mark_row (rest_of cs es next)) y stop → StopsRows cs (map mark_row (rest_of cs (Same k ∷ es) r)) x stop
stops_value cs es k r v m next x y stop many is p h =
    let behind = rests_from cs es k r (v + 1) m in
    let all : (rests_below cs es k r v ++ rest_of cs es next) ++ behind ≡ rest_of cs (Same k ∷ es) r =
    ap (λ rs. rs ++ behind) (sym (rests_some cs es k r v next is))
    ∙ (sym (rests_split cs es k r (v + 1) m) ∙ (ap (rests_below cs es k r) many ∙ sym (rest_same cs es k r))) in
    stops_marks cs (rests_below cs es k r v) (rest_of cs es next) behind (rest_of cs (Same k ∷ es) r) x y stop is.columns
    (rest_fit cs (Same k ∷ es) r is.fit) all p h

pub marks_same : (cs : List Column) (es : List Entry) (k : ℕ) (r : PlainRow) (n : ℕ) (x y : LineSet) → n ≡ count_at cs k
    → PutsRows cs (map mark_row (rests_below cs es k r n)) x y → PutsRows cs (map mark_row (rest_of cs (Same k ∷ es) r)) x y
marks_same cs es k r n x y many p =
    subst (λ rs. PutsRows cs (map mark_row rs) x y) (ap (rests_below cs es k r) many ∙ sym (rest_same cs es k r)) p

-- ---- from the first row on

pub marks_none : (cs : List Column) (most : ℕ) (d : LineSet) → IsRoom most d → PutsFrom cs [] most d
marks_none cs most d is = record { start = d; room = is; puts = puts_no_rows cs d }

pub marks_row : (cs : List Column) (rows : List Row) (most i : ℕ) (r : Row) (x y : LineSet) → i < length rows → r ≡ get_or rows i r
    → PutsFrom cs (map mark_row (all_rows cs (take i rows))) most x → PutsRows cs (map mark_row (rows_of cs r.ins r.outs)) x y
    → PutsFrom cs (map mark_row (all_rows cs (take (i + 1) rows))) most y
marks_row cs rows most i r x y low is p q = record {
  start = p.start;
  room = p.room;
  puts = subst (λ rs. PutsRows cs (map mark_row rs) p.start y) (sym (rows_taken cs rows i r low is))
      (puts_marks cs (all_rows cs (take i rows)) (rows_of cs r.ins r.outs) p.start x y p.puts q);
}

pub marks_stop : (cs : List Column) (t : FileTable) (most i : ℕ) (r : Row) (x : LineSet) (stop : RowStop) → AreColumns cs → IsJointFile cs t
    → i < length t.rows → r ≡ get_or t.rows i r → PutsFrom cs (map mark_row (all_rows cs (take i t.rows))) most x
    → StopsRows cs (map mark_row (rows_of cs r.ins r.outs)) x stop → StopsLines cs (map mark_row (all_rows cs t.rows)) most stop
marks_stop cs t most i r x stop columns file low is p h =
    let rows = t.rows in
    let all = all_rows cs rows in
    many_rows cs (map mark_row all) most p.start stop p.room
    (stops_marks cs (all_rows cs (take i rows)) (rows_of cs r.ins r.outs) (all_rows cs (drop (i + 1) rows)) all p.start x stop columns
    (all_rows_fit cs (length t.outputs) rows file.rows) (rows_around cs rows i r low is) p.puts h)

pub marks_distinct : (cs : List Column) (rows : List Row) (most : ℕ) (d : LineSet) → PutsFrom cs rows most d → AreDistinct cs rows most d
marks_distinct cs rows most d p = distinct_rows cs rows most p.start d p.room p.puts

pub set_listed : (cs : List Column) (rows : List Row) (most : ℕ) (d : LineSet) → AreDistinct cs rows most d → firsts d.lines.keys ≡ d.lines.keys
set_listed cs rows most d is = listed_distinct cs rows most d d.lines.keys is refl

-- ---- the line of a row

pub no_mark : (cs : List Column) (r : PlainRow) (x : LineSet) → HasNoPoint cs r.ins → PutsRows cs (mark_row r ∷ []) x x
no_mark cs r x none = record {
  lines = [];
  are = record { before = []; here = []; are_before = none; are_here = refl; joined = refl };
  puts = puts_none x;
}

line_of : (cs : List Column) (r : PlainRow) (l : Line) → IsRowCube cs r.ins l.cube → l.out ≡ one 0 → RowsLines cs (mark_row r ∷ []) (l ∷ [])
line_of cs r l cube out = record {
  before = l ∷ [];
  here = [];
  are_before = record { cube = cube; out_is = out };
  are_here = refl;
  joined = refl;
}

pub one_mark : (cs : List Column) (r : PlainRow) (l : Line) (x y : LineSet) → IsRowCube cs r.ins l.cube → l.out ≡ one 0 → Puts (l ∷ []) x y
    → PutsRows cs (mark_row r ∷ []) x y
one_mark cs r l x y cube out p = record { lines = l ∷ []; are = line_of cs r l cube out; puts = p }

pub stops_mark : (cs : List Column) (r : PlainRow) (l : Line) (x : LineSet) (stop : RowStop) → IsRowCube cs r.ins l.cube → l.out ≡ one 0
    → StopsPut (l ∷ []) x stop → StopsRows cs (mark_row r ∷ []) x stop
stops_mark cs r l x Memory cube out p = tt
stops_mark cs r l x Many cube out p = record { lines = l ∷ []; are = line_of cs r l cube out; many = p }

-- ---- the cover

-- what holds of the covers of a table with this default and these distinct lines
abbrev CoversBy : List Column → NetId → Option (List Entry) → LineSet → FlatTable → Type 0
CoversBy cs mark default d flat = (t : FileTable) (most : ℕ) → t.default ≡ default → AreDistinct cs t.rows most d → IsMade cs t mark flat

pub cover_made : (cs : List Column) (t : FileTable) (mark : NetId) (most : ℕ) (default : Option (List Entry)) (d : LineSet) (flat : FlatTable) → AreColumns cs
    → IsJointFile cs t → default ≡ Some (Set (one 1) ∷ []) → AreDistinct cs (map mark_row (all_rows cs t.rows)) most d → CoversBy cs mark default d flat
    → IsCoverOf cs (mark_table (all_rows cs t.rows)) mark flat.cover
cover_made cs t mark most default d flat columns file e is by =
    let marks = mark_table (all_rows cs t.rows) in
    let un = mark_unmarked cs (all_rows cs t.rows) (all_rows_fit cs (length t.outputs) t.rows file.rows) in
    cover_unmarked cs marks mark flat columns un.table un.unmarked (by marks most (sym e) is)

pub cover_of_mark : (cs : List Column) (t : FileTable) (mark : NetId) (cover : Cover) → is_joint_marked cs t ≡ true
    → IsCoverOf cs (mark_table (all_rows cs t.rows)) mark cover → IsMarkOf cs mark (mark_of cs t) (Some cover)
cover_of_mark cs t mark cover marked made = rw marked made

pub no_cover : (cs : List Column) (t : FileTable) (mark : NetId) → is_joint_marked cs t ≡ false → IsMarkOf cs mark (mark_of cs t) None
no_cover cs t mark plain = rw plain tt

-- a default of one entry
pub default_fits : (cs : List Column) (default : Option (List Entry)) (es : List Entry) → default ≡ Some (Set (one 1) ∷ []) → default ≡ Some es → IsDefault cs es
default_fits cs default es e f =
    subst (IsDefault cs) (let same : Set (one 1) ∷ [] ≡ es = cc in same) (record { single = refl; entry = tt })

pub stops_cover : (cs : List Column) (t : FileTable) (mark : NetId) (most : ℕ) (stop : RowStop) → AreColumns cs → IsJointFile cs t
    → is_joint_marked cs t ≡ true → StopsAt cs (mark_table (all_rows cs t.rows)) mark most stop → StopsMark cs t mark most stop
stops_cover cs t mark most Memory columns file marked h = tt
stops_cover cs t mark most Many columns file marked h =
    let un = mark_unmarked cs (all_rows cs t.rows) (all_rows_fit cs (length t.outputs) t.rows file.rows) in
    let made = cover_unmarked cs (mark_table (all_rows cs t.rows)) mark h.flat columns un.table un.unmarked h.made in
    record { cover = h.flat.cover; made = rw marked made; many = h.many }
