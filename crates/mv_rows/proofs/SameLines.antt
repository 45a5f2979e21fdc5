-- A row whose lines stand in a set of lines already adds none, and rows of one cube whose entry names one column have the same lines.
use Rattle.std.proofs.Common.{◌≡◌, ℕ, zero, suc, ◌+◌, ◌<◌, true, ◌&&◌, nat_eq, List, [], ◌∷◌, ◌++◌, length, get_or, take, inl, inr, append-nil, refl, sym, ◌∙◌, ap, subst, arith, All}
use Rattle.std.specs.List.{list_any}
use Rattle.std.proofs.lemmas.Bool.{cases_Bool, false≢true, or_cases, or_left, or_right}
use Rattle.std.proofs.lemmas.List.Elements.{All-nil, All-cons, All-head, All-tail, All-append, All-weaker}
use Rattle.indexmap.specs.IndexSet.{insert_key, insert_all}
use Rattle.mv_base.specs.Set.{one}
use Rattle.mv_cover.specs.Equal.{line_eq}
use Rattle.mv_cover.specs.Keys.{line_eq-Decides}
use Rattle.mv_cover.specs.Literal.{Lit}
use Rattle.mv_cover.specs.declared.line.Line.{Line}
use Rattle.mv_design.specs.Tables.{row_matches}
use Rattle.mv_design.specs.declared.table.Entry.{Entry}
use Rattle.mv_design.specs.declared.table.Entry.TheVariants.{Same}
use Rattle.mv_design.specs.declared.table.Row.{Row}
use Rattle.mv_rows.specs.declared.column.Column.{Column}
use Rattle.mv_rows.specs.declared.line_set.LineSet.{LineSet}
use Rattle.mv_rows.specs.declared.named.NamedRow.{NamedRow}
use Rattle.mv_rows.specs.declared.stop.RowStop.{RowStop}
use Rattle.mv_rows.specs.declared.stop.RowStop.TheVariants.{Many, Memory}
use Rattle.mv_rows.specs.Cubes.{column_values, in_range, AreColumns, HasNoPoint, IsRowCube}
use Rattle.mv_rows.specs.Lines.{OneLine, EachValue, EntryLines, FitEntry, narrowed, count_at}
use Rattle.mv_rows.specs.Flat.{only_entry, IsRow, RowsLines}
use Rattle.mv_rows.specs.Named.{named_eq, named_eq-Decides, HasLinesAmong, HaveLinesAmong}
use Rattle.mv_rows.specs.Once.{Puts, StopsPut, PutsRows, StopsRows, AreDistinct, StopsLines}
use Rattle.mv_rows.proofs.Existing.{distinct_more, row_stops}
use Rattle.mv_rows.proofs.LineSets.{puts_none}
use Rattle.mv_rows.proofs.Meanings.{matches-narrowed}
use Rattle.mv_rows.proofs.Orders.{fit_length}

-- ---- lines in a set

abbrev IsAmong : List Line → Line → Type 0
IsAmong keys l = list_any (line_eq l) keys ≡ true

line_itself : (l : Line) → line_eq l l ≡ true
line_itself l = (line_eq-Decides l l).1 refl

any_front : (l : Line) (xs ys : List Line) → IsAmong xs l → IsAmong (xs ++ ys) l
any_front l [] ys h = absurd (false≢true h)
any_front l (x ∷ xs) ys h =
    elim (cases_Bool (line_eq l x)) [
      | inl y ↦ or_left _ _ y
      | inr n ↦ rw n (any_front l xs ys (rw n at h))
    ]

any_last : (l : Line) (xs : List Line) → IsAmong (xs ++ l ∷ []) l
any_last l [] = or_left _ _ (line_itself l)
any_last l (x ∷ xs) = or_right _ _ (any_last l xs)

among_inserted : (keys : List Line) (l : Line) → IsAmong (insert_key line_eq keys l) l
among_inserted keys l =
    elim (cases_Bool (list_any (line_eq l) keys)) [
      | inl y ↦ rw y y
      | inr n ↦ rw n (any_last l keys)
    ]

among_with : (keys : List Line) (l m : Line) → IsAmong keys m → IsAmong (insert_key line_eq keys l) m
among_with keys l m h =
    elim (cases_Bool (list_any (line_eq l) keys)) [
      | inl y ↦ rw y h
      | inr n ↦ rw n (any_front m keys (l ∷ []) h)
    ]

-- what is among lines is among them with some more
pub among_more : (keys more : List Line) (m : Line) → IsAmong keys m → IsAmong (insert_all line_eq keys more) m
among_more keys [] m h = h
among_more keys (l ∷ ls) m h = among_more (insert_key line_eq keys l) ls m (among_with keys l m h)

-- lines that are put in are there
pub all_inserted : (keys ls : List Line) → All (IsAmong (insert_all line_eq keys ls)) ls
all_inserted keys [] = All-nil _
all_inserted keys (l ∷ ls) =
    All-cons (IsAmong (insert_all line_eq (insert_key line_eq keys l) ls)) l ls
    (among_more (insert_key line_eq keys l) ls l (among_inserted keys l))
    (all_inserted (insert_key line_eq keys l) ls)

-- lines that are there change nothing
pub inserted_there : (keys ls : List Line) → All (IsAmong keys) ls → insert_all line_eq keys ls ≡ keys
inserted_there keys [] all = refl
inserted_there keys (l ∷ ls) all =
    let same : insert_key line_eq keys l ≡ keys = rw (All-head (IsAmong keys) l ls all) refl in
    ap (λ ks. insert_all line_eq ks ls) same ∙ inserted_there keys ls (All-tail (IsAmong keys) l ls all)

-- ---- rows that match alike

record MatchAlike (cs : List Column) (a b : List ℕ) : Type 0 where
  same : (at : ℕ → ℕ) → in_range at cs ≡ true → row_matches a (column_values at cs) ≡ row_matches b (column_values at cs)

narrowed_alike : (cs : List Column) (a b : List ℕ) (k v : ℕ) → k < length a → k < length b → MatchAlike cs a b → MatchAlike cs (narrowed a k v) (narrowed b k v)
narrowed_alike cs a b k v low high alike = record {
  same = λ at range.
      let values = column_values at cs in
      matches-narrowed a values k v low
      ∙ (ap (λ x. x && nat_eq (get_or values k 0) v) (alike.same at range) ∙ sym (matches-narrowed b values k v high));
}

one_alike : (cs : List Column) (a b : List ℕ) (out : ℕ) (ls : List Line) → MatchAlike cs a b → OneLine cs a out ls → OneLine cs b out ls
one_alike cs a b out [] alike is = record { nowhere = λ at range. sym (alike.same at range) ∙ is.nowhere at range }
one_alike cs a b out (l ∷ []) alike is = record {
  cube = record {
    points = λ at range. is.cube.points at range ∙ alike.same at range;
    point = record { at = is.cube.point.at; range = is.cube.point.range; there = sym (alike.same is.cube.point.at is.cube.point.range) ∙ is.cube.point.there };
    formed = is.cube.formed;
    parts = is.cube.parts;
  };
  out_is = is.out_is;
}
one_alike cs a b out (l ∷ m ∷ ls) alike is = absurd is

each_alike : (cs : List Column) (a b : List ℕ) (k n : ℕ) (ls : List Line) → k < length a → k < length b → MatchAlike cs a b → EachValue cs a k n ls → EachValue cs b k n ls
each_alike cs a b k zero ls low high alike are = are
each_alike cs a b k (suc v) ls low high alike are = record {
  before = are.before;
  here = are.here;
  are_before = each_alike cs a b k v are.before low high alike are.are_before;
  are_here = one_alike cs (narrowed a k v) (narrowed b k v) (one v) are.here (narrowed_alike cs a b k v low high alike) are.are_here;
  joined = are.joined;
}

-- a row that matches nothing has no line for any value
none_each : (cs : List Column) (a : List ℕ) (k n : ℕ) → k < length a → HasNoPoint cs a → EachValue cs a k n []
none_each cs a k zero low none = refl
none_each cs a k (suc v) low none = record {
  before = [];
  here = [];
  are_before = none_each cs a k v low none;
  are_here = record {
    nowhere = λ at range.
        let values = column_values at cs in
        matches-narrowed a values k v low ∙ ap (λ x. x && nat_eq (get_or values k 0) v) (none.nowhere at range);
  };
  joined = refl;
}

-- ---- one row

single : (cs : List Column) (r : Row) (ls : List Line) → RowsLines cs (r ∷ []) ls → EntryLines cs r.ins (only_entry r.outs) ls
single cs r ls h =
    subst (EntryLines cs r.ins (only_entry r.outs)) (sym (h.joined ∙ (ap (λ (x : List Line). h.before ++ x) h.are_here ∙ append-nil h.before))) h.are_before

alone : (cs : List Column) (r : Row) (ls : List Line) → EntryLines cs r.ins (only_entry r.outs) ls → RowsLines cs (r ∷ []) ls
alone cs r ls h = record { before = ls; here = []; are_before = h; are_here = refl; joined = sym (append-nil ls) }

pub puts_row : (cs : List Column) (r : Row) (here : List Line) (a b : LineSet) → EntryLines cs r.ins (only_entry r.outs) here → Puts here a b → PutsRows cs (r ∷ []) a b
puts_row cs r here a b are puts = record { lines = here; are = alone cs r here are; puts = puts }

pub stops_row : (cs : List Column) (r : Row) (here : List Line) (a : LineSet) (stop : RowStop) → EntryLines cs r.ins (only_entry r.outs) here → StopsPut here a stop → StopsRows cs (r ∷ []) a stop
stops_row cs r here a Many are stops = record { lines = here; are = alone cs r here are; many = stops }
stops_row cs r here a Memory are stops = tt

-- with more lines in the set the lines of rows still are there
pub still_among : (cs : List Column) (rows : List Row) (named : List NamedRow) (a b : LineSet) → PutsRows cs rows a b → HaveLinesAmong cs a.lines.keys named → HaveLinesAmong cs b.lines.keys named
still_among cs rows named a b p all =
    subst (λ ks. HaveLinesAmong cs ks named) (sym p.puts.keys)
    (All-weaker (HasLinesAmong cs a.lines.keys) (HasLinesAmong cs (insert_all line_eq a.lines.keys p.lines))
    (λ n h. record {
      here = h.here;
      are = h.are;
      there = All-weaker (IsAmong a.lines.keys) (IsAmong (insert_all line_eq a.lines.keys p.lines)) (λ l i. among_more a.lines.keys p.lines l i) h.here h.there;
    })
    named all)

-- ---- a row whose entry names a column

entry_is : (cs : List Column) (r : Row) (k : ℕ) (ls : List Line) → only_entry r.outs ≡ Same k → EachValue cs r.ins k (count_at cs k) ls → EntryLines cs r.ins (only_entry r.outs) ls
entry_is cs r k ls e are = subst (λ (x : Entry). EntryLines cs r.ins x ls) (sym e) are

place_low : (cs : List Column) (r : Row) (k : ℕ) → IsRow cs r → only_entry r.outs ≡ Same k → k < length cs
place_low cs r k is e = let low : FitEntry cs (Same k) = subst (FitEntry cs) e is.entry in low

-- one that matches nothing has no lines
pub none_row : (cs : List Column) (r : Row) (k : ℕ) (d : LineSet) → IsRow cs r → only_entry r.outs ≡ Same k → HasNoPoint cs r.ins → PutsRows cs (r ∷ []) d d
none_row cs r k d is e none =
    let low = place_low cs r k is e in
    let long = fit_length cs r.ins is.sets in
    let are = none_each cs r.ins k (count_at cs k) (omega (arith, low, long)) none in
    record { lines = []; are = alone cs r [] (entry_is cs r k [] e are); puts = puts_none d }

-- what is known of a row that is found
found_named : (cs : List Column) (lines : List Line) (n : NamedRow) (named : List NamedRow) → list_any (named_eq n) named ≡ true → HaveLinesAmong cs lines named → HasLinesAmong cs lines n
found_named cs lines n [] there all = absurd (false≢true there)
found_named cs lines n (m ∷ named) there all =
    elim (or_cases (named_eq n m) (list_any (named_eq n) named) there) [
      | inl e ↦ subst (HasLinesAmong cs lines) (sym ((named_eq-Decides n m).0 e)) (All-head (HasLinesAmong cs lines) m named all)
      | inr rest ↦ found_named cs lines n named rest (All-tail (HasLinesAmong cs lines) m named all)
    ]

-- the lines of one that is found stand there already
pub seen_row : (cs : List Column) (r : Row) (n : NamedRow) (named : List NamedRow) (d : LineSet) → IsRow cs r → only_entry r.outs ≡ Same n.place → IsRowCube cs r.ins n.cube
    → list_any (named_eq n) named ≡ true → HaveLinesAmong cs d.lines.keys named → PutsRows cs (r ∷ []) d d
seen_row cs r n named d is e cube there all =
    let known = found_named cs d.lines.keys n named there all in
    let are = known.are r.ins is.sets cube in
    record {
      lines = known.here;
      are = alone cs r known.here (entry_is cs r n.place known.here e are);
      puts = record { keys = sym (inserted_there d.lines.keys known.here known.there); most = refl };
    }

-- rows of one cube match alike
cubes_alike : (cs : List Column) (a b : List ℕ) (cube : List Lit) → IsRowCube cs a cube → IsRowCube cs b cube → MatchAlike cs a b
cubes_alike cs a b cube p q = record { same = λ at range. sym (p.points at range) ∙ q.points at range }

-- one whose lines are put in is known from then on
pub named_more : (cs : List Column) (r : Row) (n : NamedRow) (named : List NamedRow) (a b : LineSet) → IsRow cs r → only_entry r.outs ≡ Same n.place → IsRowCube cs r.ins n.cube
    → PutsRows cs (r ∷ []) a b → HaveLinesAmong cs a.lines.keys named → HaveLinesAmong cs b.lines.keys (insert_key named_eq named n)
named_more cs r n named a b is e cube p all =
    let before = still_among cs (r ∷ []) named a b p all in
    let low = place_low cs r n.place is e in
    let long = fit_length cs r.ins is.sets in
    let lines = subst (λ (x : Entry). EntryLines cs r.ins x p.lines) e (single cs r p.lines p.are) in
    let own : HasLinesAmong cs b.lines.keys n = record {
      here = p.lines;
      are = λ sets fit other.
          let far = fit_length cs sets fit in
          each_alike cs r.ins sets n.place (count_at cs n.place) p.lines (omega (arith, low, long)) (omega (arith, low, far)) (cubes_alike cs r.ins sets n.cube cube other) lines;
      there = subst (λ ks. All (λ (l : Line). list_any (line_eq l) ks ≡ true) p.lines) (sym p.puts.keys) (all_inserted a.lines.keys p.lines);
    } in
    elim (cases_Bool (list_any (named_eq n) named)) [
      | inl y ↦ rw y before
      | inr f ↦
          rw f
          (All-append (HasLinesAmong cs b.lines.keys) named (n ∷ []) before
          (All-cons (HasLinesAmong cs b.lines.keys) n [] own (All-nil (HasLinesAmong cs b.lines.keys))))
    ]

-- ---- one row after the other

pub distinct_row : (cs : List Column) (rows : List Row) (most i : ℕ) (r : Row) (old new : LineSet) → i < length rows → r ≡ get_or rows i r → AreDistinct cs (take i rows) most old → PutsRows cs (r ∷ []) old new
    → AreDistinct cs (take (i + 1) rows) most new
distinct_row cs rows most i r old new low is so_far p = distinct_more cs rows most i r p.lines old new low is so_far (single cs r p.lines p.are) p.puts

pub row_many : (cs : List Column) (rows : List Row) (most i : ℕ) (r : Row) (d : LineSet) (stop : RowStop) → AreColumns cs → All (IsRow cs) rows → i < length rows → r ≡ get_or rows i r
    → AreDistinct cs (take i rows) most d → StopsRows cs (r ∷ []) d stop → StopsLines cs rows most stop
row_many cs rows most i r d Memory columns all low is so_far stops = tt
row_many cs rows most i r d Many columns all low is so_far stops =
    row_stops cs rows most i r stops.lines d Many columns all low is so_far (single cs r stops.lines stops.are) stops.many
