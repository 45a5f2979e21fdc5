-- Each table has covers: the lines of its rows are there, whoever makes them.
use Rattle.std.proofs.Common.{◌≡◌, ℕ, zero, suc, ◌+◌, ◌<◌, ◌≤◌, true, if◌then◌else◌, Option, Some, None, List, [], ◌∷◌, ◌++◌, length, get_or, take, drop, inl, inr, append-nil, append_assoc, refl, sym, ◌∙◌, ap, subst, arith, All}
use Rattle.std.specs.Prelude.{nat_le}
use Rattle.std.specs.List.Sorted.{IsPermutation}
use Rattle.std.proofs.lemmas.Bool.{cases_Bool, and_from, and_parts, le-leb, leb-false}
use Rattle.std.proofs.lemmas.List.{take-append-drop, drop_more}
use Rattle.std.proofs.lemmas.List.Elements.{All-head, All-tail, All-drop}
use Rattle.std.proofs.lemmas.List.Sorted.{IsPermutation-refl, IsPermutation-trans, IsPermutation-cons, IsPermutation-middle}
use Rattle.indexmap.specs.IndexSet.{insert_all}
use Rattle.mv_base.specs.Set.{one}
use Rattle.mv_base.specs.declared.number.NetId.{NetId}
use Rattle.mv_cover.specs.Equal.{line_eq}
use Rattle.mv_cover.specs.declared.line.Line.{Line}
use Rattle.mv_cover.proofs.Absorbing.{inserted_firsts}
use Rattle.mv_design.specs.declared.table.Entry.{Entry}
use Rattle.mv_design.specs.declared.table.Entry.TheVariants.{Set, Same}
use Rattle.mv_design.specs.declared.table.Row.{Row}
use Rattle.mv_design.specs.declared.table.FileTable.{FileTable}
use Rattle.mv_rows.specs.declared.column.Column.{Column}
use Rattle.mv_rows.specs.declared.column.Placed.{Placed}
use Rattle.mv_rows.specs.declared.line_set.LineSet.{LineSet}
use Rattle.mv_rows.specs.declared.stop.RowStop.{RowStop}
use Rattle.mv_rows.specs.declared.stop.RowStop.TheVariants.{Many, Memory}
use Rattle.mv_rows.specs.declared.table.FlatTable.{FlatTable}
use Rattle.mv_rows.specs.Columns.{placed, rises_after, IsColumnOrder}
use Rattle.mv_rows.specs.Cubes.{AreColumns, FitRow}
use Rattle.mv_rows.specs.Lines.{AddsLines, OneLine, EachValue, EntryLines, narrowed, count_at}
use Rattle.mv_rows.specs.Flat.{only_entry, IsRow, RowsLines, kept, default_left, plain_default, mark_cover, with_mark, marked_sets, unmarked, FlatBy, FlatOf, IsMade}
use Rattle.mv_rows.specs.Many.{StopsAt}
use Rattle.mv_rows.specs.Meeting.{literals_of, all_possible}
use Rattle.mv_rows.specs.Once.{count_said, most_of, IsRoom, Puts, StopsPut, PutsRows, StopsRows, AreDistinct, StopsLines}
use Rattle.mv_rows.proofs.Alike.{inserted-append, kept-firsts}
use Rattle.mv_rows.proofs.Cubes.{IsRowCube-literals, HasNoPoint-literals}
use Rattle.mv_rows.proofs.LineSets.{count-grows, puts_none, puts_more, stops_more}
use Rattle.mv_rows.proofs.Rows.{rows_more, fit_marked}
use Rattle.mv_rows.proofs.Values.{fit_narrowed}

-- ---- an order of the columns in which their nets ascend

abbrev put_placed : Placed → List Placed → List Placed
put_placed p [] = p ∷ []
put_placed p (q ∷ qs) = if nat_le p.column.net.0 q.column.net.0 then p ∷ q ∷ qs else q ∷ put_placed p qs

abbrev sorted : List Placed → List Placed
sorted [] = []
sorted (p ∷ ps) = put_placed p (sorted ps)

put_moves : (p : Placed) (qs : List Placed) → IsPermutation (p ∷ qs) (put_placed p qs)
put_moves p [] = IsPermutation-refl (p ∷ [])
put_moves p (q ∷ qs) =
    elim (cases_Bool (nat_le p.column.net.0 q.column.net.0)) [
      | inl low ↦ rw low (IsPermutation-refl (p ∷ q ∷ qs))
      | inr high ↦
          rw high
          (IsPermutation-trans (p ∷ q ∷ qs) (q ∷ p ∷ qs) (q ∷ put_placed p qs) (IsPermutation-middle (p ∷ []) q qs)
          (IsPermutation-cons q (p ∷ qs) (put_placed p qs) (put_moves p qs)))
    ]

sorted_moves : (ps : List Placed) → IsPermutation ps (sorted ps)
sorted_moves [] = IsPermutation-refl []
sorted_moves (p ∷ ps) =
    IsPermutation-trans (p ∷ ps) (p ∷ sorted ps) (put_placed p (sorted ps)) (IsPermutation-cons p ps (sorted ps) (sorted_moves ps)) (put_moves p (sorted ps))

put_rises : (n : ℕ) (p : Placed) (qs : List Placed) → n ≤ p.column.net.0 → rises_after n qs ≡ true → rises_after n (put_placed p qs) ≡ true
put_rises n p [] low up = and_from _ _ (le-leb n p.column.net.0 low) refl
put_rises n p (q ∷ qs) low up =
    let h = and_parts (nat_le n q.column.net.0) (rises_after q.column.net.0 qs) up in
    elim (cases_Bool (nat_le p.column.net.0 q.column.net.0)) [
      | inl y ↦ rw y (and_from _ _ (le-leb n p.column.net.0 low) (and_from _ _ y h.1))
      | inr m ↦
          let high = leb-false p.column.net.0 q.column.net.0 m in
          rw m (and_from _ _ h.0 (put_rises q.column.net.0 p qs (omega arith) h.1))
    ]

sorted_rises : (ps : List Placed) → rises_after 0 (sorted ps) ≡ true
sorted_rises [] = refl
sorted_rises (p ∷ ps) = put_rises 0 p (sorted ps) (omega arith) (sorted_rises ps)

order_of : (cs : List Column) → IsColumnOrder cs (sorted (placed 0 cs))
order_of cs = record { moved = sorted_moves (placed 0 cs); rises = sorted_rises (placed 0 cs) }

-- ---- lines

-- lines of this kind
pub record Lines (P : List Line → Type 0) : Type 0 where
  pub lines : List Line
  pub are : P lines

one_line : (cs : List Column) (sets : List ℕ) (out : ℕ) → AreColumns cs → FitRow cs sets → Lines (OneLine cs sets out)
one_line cs sets out columns fit =
    let order = sorted (placed 0 cs) in
    let lits = literals_of sets order in
    elim (cases_Bool (all_possible lits)) [
      | inl some ↦ record {
        lines = record { cube = lits; out = out } ∷ [];
        are = record { cube = IsRowCube-literals cs order sets lits columns fit (order_of cs) (record { is = refl; possible = some }); out_is = refl };
      }
      | inr none ↦ record { lines = []; are = HasNoPoint-literals cs order sets fit (order_of cs) none }
    ]

each_line : (cs : List Column) (sets : List ℕ) (k n : ℕ) → AreColumns cs → FitRow cs sets → Lines (EachValue cs sets k n)
each_line cs sets k zero columns fit = record { lines = []; are = refl }
each_line cs sets k (suc v) columns fit =
    let first = each_line cs sets k v columns fit in
    let next = one_line cs (narrowed sets k v) (one v) columns (fit_narrowed cs sets k v fit) in
    record {
      lines = first.lines ++ next.lines;
      are = record { before = first.lines; here = next.lines; are_before = first.are; are_here = next.are; joined = refl };
    }

entry_lines : (cs : List Column) (sets : List ℕ) (e : Entry) → AreColumns cs → FitRow cs sets → Lines (EntryLines cs sets e)
entry_lines cs sets (Set s) columns fit = one_line cs sets s columns fit
entry_lines cs sets (Same k) columns fit = each_line cs sets k (count_at cs k) columns fit

pub rows_lines : (cs : List Column) (rows : List Row) → AreColumns cs → All (IsRow cs) rows → Lines (RowsLines cs rows)
rows_lines cs [] columns all = record { lines = []; are = refl }
rows_lines cs (r ∷ rows) columns all =
    let first = entry_lines cs r.ins (only_entry r.outs) columns (All-head (IsRow cs) r rows all).sets in
    let rest = rows_lines cs rows columns (All-tail (IsRow cs) r rows all) in
    record {
      lines = first.lines ++ rest.lines;
      are = record { before = first.lines; here = rest.lines; are_before = first.are; are_here = rest.are; joined = refl };
    }

-- ---- rows one after the other

pub distinct_none : (cs : List Column) (rows : List Row) (most : ℕ) (d : LineSet) → IsRoom most d → AreDistinct cs (take 0 rows) most d
distinct_none cs rows most d is = record {
  lines = [];
  are = refl;
  keys = is.keys;
  room = let none = ap count_said is.keys in let left = is.room in omega arith;
}

pub distinct_more : (cs : List Column) (rows : List Row) (most i : ℕ) (r : Row) (here : List Line) (old new : LineSet) → i < length rows → r ≡ get_or rows i r → AreDistinct cs (take i rows) most old → EntryLines cs r.ins (only_entry r.outs) here → Puts here old new → AreDistinct cs (take (i + 1) rows) most new
distinct_more cs rows most i r here old new low is so_far are puts =
    let adds : AddsLines (EntryLines cs r.ins (only_entry r.outs)) so_far.lines (so_far.lines ++ here) = record { here = here; are = are; joined = refl } in
    record {
      lines = so_far.lines ++ here;
      are = rows_more cs rows i r r.ins (only_entry r.outs) so_far.lines (so_far.lines ++ here) low is refl refl so_far.are adds;
      keys = puts.keys ∙ (ap (λ ks. insert_all line_eq ks here) so_far.keys ∙ sym (inserted-append [] so_far.lines here));
      room = puts.most ∙ so_far.room;
    }

pub rows_append : (cs : List Column) (xs ys : List Row) (a b : List Line) → RowsLines cs xs a → RowsLines cs ys b → RowsLines cs (xs ++ ys) (a ++ b)
rows_append cs [] ys a b p q = let P : List Line → Type 0 = λ ls. RowsLines cs ys (ls ++ b) in subst P (sym p) q
rows_append cs (x ∷ xs) ys a b p q = record {
  before = p.before;
  here = p.here ++ b;
  are_before = p.are_before;
  are_here = rows_append cs xs ys p.here b p.are_here q;
  joined = ap (λ ls. ls ++ b) p.joined ∙ append_assoc p.before p.here b;
}

-- ---- rows whose lines are put in

pub puts_no_rows : (cs : List Column) (d : LineSet) → PutsRows cs [] d d
puts_no_rows cs d = record { lines = []; are = refl; puts = puts_none d }

pub puts_more_rows : (cs : List Column) (xs ys : List Row) (a b c : LineSet) → PutsRows cs xs a b → PutsRows cs ys b c → PutsRows cs (xs ++ ys) a c
puts_more_rows cs xs ys a b c p q = record {
  lines = p.lines ++ q.lines;
  are = rows_append cs xs ys p.lines q.lines p.are q.are;
  puts = puts_more p.lines q.lines a b c p.puts q.puts;
}

-- where lines stop behind those of some rows, they stop among those of them all
pub stops_more_rows : (cs : List Column) (xs ys : List Row) (a b : LineSet) (stop : RowStop) → PutsRows cs xs a b → StopsRows cs ys b stop
    → StopsRows cs (xs ++ ys) a stop
stops_more_rows cs xs ys a b Memory p q = tt
stops_more_rows cs xs ys a b Many p q =
    let P : List Line → Type 0 = λ ls. most_of a < count_said (insert_all line_eq a.lines.keys (p.lines ++ ls)) in
    record {
      lines = p.lines ++ q.lines;
      are = rows_append cs xs ys p.lines q.lines p.are q.are;
      many = subst P (append-nil q.lines) (stops_more p.lines q.lines [] a b Many p.puts q.many);
    }

-- and so they do with those of the rows behind
pub stops_early_rows : (cs : List Column) (xs ys : List Row) (a : LineSet) (stop : RowStop) → AreColumns cs → All (IsRow cs) ys → StopsRows cs xs a stop
    → StopsRows cs (xs ++ ys) a stop
stops_early_rows cs xs ys a Memory columns fit q = tt
stops_early_rows cs xs ys a Many columns fit q =
    let rest = rows_lines cs ys columns fit in
    record {
      lines = q.lines ++ rest.lines;
      are = rows_append cs xs ys q.lines rest.lines q.are rest.are;
      many = stops_more [] q.lines rest.lines a a Many (puts_none a) q.many;
    }

-- the distinct lines of rows that are put in where there were none
pub distinct_rows : (cs : List Column) (rows : List Row) (most : ℕ) (a b : LineSet) → IsRoom most a → PutsRows cs rows a b → AreDistinct cs rows most b
distinct_rows cs rows most a b is p = record {
  lines = p.lines;
  are = p.are;
  keys = p.puts.keys ∙ ap (λ ks. insert_all line_eq ks p.lines) is.keys;
  room = let none = ap count_said is.keys in let left = is.room in let all = p.puts.most in omega arith;
}

pub many_rows : (cs : List Column) (rows : List Row) (most : ℕ) (a : LineSet) (stop : RowStop) → IsRoom most a → StopsRows cs rows a stop
    → StopsLines cs rows most stop
many_rows cs rows most a Memory is q = tt
many_rows cs rows most a Many is q =
    let none = ap count_said is.keys in
    let left = is.room in
    let same = ap (λ ks. count_said (insert_all line_eq ks q.lines)) is.keys in
    let counted = ap length (kept-firsts q.lines) ∙ ap count_said (sym (inserted_firsts q.lines)) in
    let more = q.many in
    record { all = q.lines; are = q.are; many = omega arith }

-- the row's lines stop, and the rows behind it have lines too
pub row_stops : (cs : List Column) (rows : List Row) (most i : ℕ) (r : Row) (here : List Line) (d : LineSet) (stop : RowStop) → AreColumns cs → All (IsRow cs) rows → i < length rows → r ≡ get_or rows i r → AreDistinct cs (take i rows) most d → EntryLines cs r.ins (only_entry r.outs) here → StopsPut here d stop → StopsLines cs rows most stop
row_stops cs rows most i r here d Memory columns all low is so_far are stops = tt
row_stops cs rows most i r here d Many columns all low is so_far are stops =
    let rest = rows_lines cs (drop (i + 1) rows) columns (All-drop (IsRow cs) (i + 1) rows all) in
    let behind : RowsLines cs (r ∷ drop (i + 1) rows) (here ++ rest.lines) =
    record { before = here; here = rest.lines; are_before = are; are_here = rest.are; joined = refl } in
    let lines = so_far.lines ++ (here ++ rest.lines) in
    let place : take i rows ++ r ∷ drop (i + 1) rows ≡ rows =
    ap (λ qs. take i rows ++ qs) (ap (λ q. q ∷ drop (i + 1) rows) is ∙ sym (drop_more rows i r low)) ∙ take-append-drop i rows in
    let P : List Row → Type 0 = λ qs. RowsLines cs qs lines in
    let keys = insert_all line_eq (insert_all line_eq [] so_far.lines) here in
    let same = ap (λ ks. count_said (insert_all line_eq ks here)) so_far.keys in
    let split : insert_all line_eq [] lines ≡ insert_all line_eq keys rest.lines =
    inserted-append [] so_far.lines (here ++ rest.lines) ∙ inserted-append (insert_all line_eq [] so_far.lines) here rest.lines in
    let counted = ap length (kept-firsts lines) ∙ ap count_said (sym (inserted_firsts lines) ∙ split) in
    let grows = count-grows keys rest.lines in
    let room = so_far.room in
    record {
      all = lines;
      are = subst P place (rows_append cs (take i rows) (r ∷ drop (i + 1) rows) so_far.lines (here ++ rest.lines) so_far.are behind);
      many = omega arith;
    }

-- ---- covers

-- a table with these lines, whose cover has no fewer than have an output
record Covered (cs : List Column) (mark : NetId) (lines : List Line) (o : Option Entry) : Type 0 where
  flat : FlatTable
  is : FlatOf cs mark lines o flat
  many : length (kept lines) ≤ length flat.cover.lines

kept_fewer : (lines more : List Line) → length (kept lines) ≤ length (kept (lines ++ more))
kept_fewer lines more =
    let e = ap length (kept-firsts lines) ∙ ap count_said (sym (inserted_firsts lines)) in
    let f = ap length (kept-firsts (lines ++ more)) ∙ ap count_said (sym (inserted_firsts (lines ++ more)) ∙ inserted-append [] lines more) in
    let grows = count-grows (insert_all line_eq [] lines) more in
    omega arith

covered_by : (cs : List Column) (mark : NetId) (lines : List Line) (entry : Entry) → AreColumns (with_mark cs mark) → (o : Option ℕ) → plain_default entry lines ≡ o → Covered cs mark lines (Some entry)
covered_by cs mark lines entry columns None e =
    let added = entry_lines (with_mark cs mark) (marked_sets cs) entry columns (fit_marked cs mark) in
    let flat : FlatTable = record { cover = record { lines = kept (lines ++ added.lines); default = None }; mark = Some (mark_cover lines) } in
    let P : Option ℕ → Type 0 = λ o. FlatBy cs mark lines entry o flat in
    record {
      flat = flat;
      is = subst P (sym e) (record { added = added.lines; are = added.are; cover_is = refl; mark_is = refl });
      many = kept_fewer lines added.lines;
    }
covered_by cs mark lines entry columns (Some s) e =
    let P : Option ℕ → Type 0 = λ o. FlatBy cs mark lines entry o (unmarked lines (Some s)) in
    record { flat = unmarked lines (Some s); is = subst P (sym e) refl; many = omega arith }

covered_of : (cs : List Column) (mark : NetId) (lines : List Line) (o : Option Entry) → AreColumns (with_mark cs mark) → Covered cs mark lines o
covered_of cs mark lines None columns = record { flat = unmarked lines None; is = refl; many = omega arith }
covered_of cs mark lines (Some entry) columns = covered_by cs mark lines entry columns (plain_default entry lines) refl

-- a table whose lines are too many has covers that are
pub table_stops : (cs : List Column) (t : FileTable) (mark : NetId) (most : ℕ) (stop : RowStop) → AreColumns (with_mark cs mark) → StopsLines cs t.rows most stop → StopsAt cs t mark most stop
table_stops cs t mark most Memory columns stops = tt
table_stops cs t mark most Many columns stops =
    let there = covered_of cs mark stops.all (default_left t.default stops.all) columns in
    let more = there.many in
    let many = stops.many in
    record { flat = there.flat; made = record { lines = stops.all; are = stops.are; covers = there.is }; many = omega arith }

-- covers of a table
pub record HasCovers (cs : List Column) (t : FileTable) (mark : NetId) : Type 0 where
  pub flat : FlatTable
  pub made : IsMade cs t mark flat

pub table_there : (cs : List Column) (t : FileTable) (mark : NetId) → AreColumns cs → AreColumns (with_mark cs mark) → All (IsRow cs) t.rows → HasCovers cs t mark
table_there cs t mark columns with rows =
    let there = rows_lines cs t.rows columns rows in
    let covers = covered_of cs mark there.lines (default_left t.default there.lines) with in
    record { flat = covers.flat; made = record { lines = there.lines; are = there.are; covers = covers.is } }
