-- A table gets a mark exactly where its rows and its default say so.
use Rattle.std.proofs.Common.{◌≡◌, ℕ, zero, suc, ◌+◌, ◌<◌, Bool, true, false, ◌&&◌, ◌||◌, not, nat_eq, cond, Option, Some, None, List, [], ◌∷◌, ◌++◌, length, refl, sym, ◌∙◌, ap, arith, All}
use Rattle.std.specs.List.{list_any, range_with_len}
use Rattle.std.specs.Option.{is_some}
use Rattle.std.proofs.Math.Bool.{and-true, and-false, or-false, or_assoc}
use Rattle.std.proofs.lemmas.Bool.{false≢true, and_from, and_left, ltb-true, lt-ltb, ne_eqb, false_from_ne_true, true_from_ne_false}
use Rattle.std.proofs.lemmas.List.Elements.{All-head, All-tail}
use Rattle.std.proofs.lemmas.List.Folds.{list_any-append}
use Rattle.mv_base.specs.Set.{has, empty, one, full}
use Rattle.mv_base.specs.declared.number.NetId.{NetId}
use Rattle.mv_base.proofs.Sets.{has-full}
use Rattle.mv_cover.specs.Literal.{Lit}
use Rattle.mv_cover.specs.declared.line.Line.{Line}
use Rattle.mv_cover.specs.Cubes.{matches}
use Rattle.mv_cover.specs.Absorb.{some_bare}
use Rattle.mv_cover.proofs.Containing.{left_out, same_from_Within}
use Rattle.mv_cover.proofs.Points.{one_some}
use Rattle.mv_design.specs.declared.table.Entry.{Entry}
use Rattle.mv_design.specs.declared.table.Entry.TheVariants.{Set, Same}
use Rattle.mv_design.specs.declared.table.Row.{Row}
use Rattle.mv_design.specs.declared.table.FileTable.{FileTable}
use Rattle.mv_rows.specs.declared.column.Column.{Column}
use Rattle.mv_rows.specs.declared.table.FlatTable.{FlatTable}
use Rattle.mv_rows.specs.Cubes.{in_range, IsColumn, AreColumns, FitRow, IsPart, HasPoint, HasNoPoint, IsRowCube}
use Rattle.mv_rows.specs.Lines.{OneLine, EachValue, EntryLines, narrowed, count_at}
use Rattle.mv_rows.specs.Flat.{only_entry, IsRow, IsTable, RowsLines, says_nothing, default_left, plain_default, unmarked, FlatBy, FlatOf, IsMade}
use Rattle.mv_rows.specs.Marked.{matches_all, matches_none, is_bare, some_row_bare, is_silent, needs_mark, default_marked, is_marked}
use Rattle.mv_rows.proofs.Values.{fit_narrowed}
use Rattle.mv_rows.proofs.Matching.{matched_everywhere, matched_nowhere, all_from_everywhere, point_of_some, alone, alone-at, alone_ranges}

-- some line has no output
abbrev some_empty : List Line → Bool
some_empty ls = list_any (λ (l : Line). nat_eq l.out empty) ls

-- ---- the line of a row

-- all nets have 0 among their values
zeros_range : (cs : List Column) → All IsColumn cs → in_range (λ _. 0) cs ≡ true
zeros_range [] each = refl
zeros_range (c ∷ cs) each =
    let some : 0 < c.count = (All-head IsColumn c cs each).some in
    and_from _ _ (lt-ltb 0 c.count some) (zeros_range cs (All-tail IsColumn c cs each))

-- a row that matches nowhere doesn't match everything
pub not_everywhere : (cs : List Column) (sets : List ℕ) → AreColumns cs → FitRow cs sets → HasNoPoint cs sets → matches_all cs sets ≡ false
not_everywhere cs sets columns fit none =
    let range = zeros_range cs columns.each in
    false_from_ne_true _ (λ all. false≢true (sym (none.nowhere (λ _. 0) range) ∙ matched_everywhere (λ _. 0) cs sets fit range all))

-- a cube with a literal doesn't hold everywhere
pub bare-cube : (cs : List Column) (sets : List ℕ) (cube : List Lit) → AreColumns cs → FitRow cs sets → IsRowCube cs sets cube → nat_eq (length cube) 0 ≡ matches_all cs sets
bare-cube cs sets [] columns fit is = sym (all_from_everywhere cs sets columns (record { there = λ at range. sym (is.points at range) }))
bare-cube cs sets (l ∷ ls) columns fit is =
    let part : IsPart (columns.count l.net.0) l.set = (is.parts columns.count columns.counts).0 in
    let out = left_out (full (columns.count l.net.0)) l.set (λ w. part.not_full (same_from_Within l.set (full (columns.count l.net.0)) part.values.within w)) in
    let at : ℕ → ℕ = alone l.net.0 out.0 in
    let low : out.0 < columns.count l.net.0 = ltb-true out.0 (columns.count l.net.0) (sym (has-full (columns.count l.net.0) out.0) ∙ out.1) in
    let range : in_range at cs ≡ true = alone_ranges columns.count l.net.0 out.0 low cs columns.each columns.counts in
    let missed : matches at (l ∷ ls) ≡ false = and_left (has l.set (at l.net.0)) (matches at ls) (ap (has l.set) (alone-at l.net.0 out.0) ∙ out.2) in
    let some : matches_all cs sets ≡ false =
    false_from_ne_true _ (λ all. false≢true (sym missed ∙ (is.points at range ∙ matched_everywhere at cs sets fit range all))) in
    ne_eqb (length (l ∷ ls)) 0 (λ e. absurd (omega arith)) ∙ sym some

bare-line : (cs : List Column) (sets : List ℕ) (out : ℕ) (ls : List Line) → AreColumns cs → FitRow cs sets → OneLine cs sets out ls → some_bare ls ≡ matches_all cs sets
bare-line cs sets out [] columns fit none = sym (not_everywhere cs sets columns fit none)
bare-line cs sets out (l ∷ []) columns fit is = or-false _ ∙ bare-cube cs sets l.cube columns fit is.cube
bare-line cs sets out (l ∷ m ∷ ls) columns fit is = absurd is

-- a row that matches somewhere doesn't match nothing, and one that matches nowhere does
pub not_none : (cs : List Column) (sets : List ℕ) → HasPoint cs sets → matches_none cs sets ≡ false
not_none cs sets point = false_from_ne_true _ (λ none. false≢true (sym (matched_nowhere point.at cs sets point.range none) ∙ point.there))

pub none_from_nowhere : (cs : List Column) (sets : List ℕ) → AreColumns cs → FitRow cs sets → HasNoPoint cs sets → matches_none cs sets ≡ true
none_from_nowhere cs sets columns fit none =
    true_from_ne_false _
    (λ some.
    let point = point_of_some cs sets columns fit some in
    false≢true (sym (none.nowhere point.at point.range) ∙ point.there))

empty-line : (cs : List Column) (sets : List ℕ) (out : ℕ) (ls : List Line) → AreColumns cs → FitRow cs sets → OneLine cs sets out ls → some_empty ls ≡ (nat_eq out empty && not (matches_none cs sets))
empty-line cs sets out [] columns fit none = sym (ap (λ b. nat_eq out empty && not b) (none_from_nowhere cs sets columns fit none) ∙ and-false _)
empty-line cs sets out (l ∷ []) columns fit is =
    or-false _
    ∙ (ap (λ x. nat_eq x empty) is.out_is
    ∙ sym (ap (λ b. nat_eq out empty && not b) (not_none cs sets is.cube.point) ∙ and-true _))
empty-line cs sets out (l ∷ m ∷ ls) columns fit is = absurd is

-- ---- the lines of a row

-- one number more
any-range : (p : ℕ → Bool) (a n : ℕ) → list_any p (range_with_len a (suc n)) ≡ (list_any p (range_with_len a n) || p (a + n))
any-range p a zero = or-false _ ∙ ap p (omega arith)
any-range p a (suc n) =
    ap (λ b. p a || b) (any-range p (a + 1) n)
    ∙ (sym (or_assoc (p a) (list_any p (range_with_len (a + 1) n)) (p (a + 1 + n)))
    ∙ ap (λ x. (p a || list_any p (range_with_len (a + 1) n)) || p x) (omega arith))

joined-any : (p : Line → Bool) (before here ls : List Line) → ls ≡ before ++ here → list_any p ls ≡ (list_any p before || list_any p here)
joined-any p before here ls e = ap (list_any p) e ∙ list_any-append p before here

bare-values : (cs : List Column) (sets : List ℕ) (k n : ℕ) (ls : List Line) → AreColumns cs → FitRow cs sets → EachValue cs sets k n ls → some_bare ls ≡ list_any (λ v. matches_all cs (narrowed sets k v)) (range_with_len 0 n)
bare-values cs sets k zero ls columns fit are = ap some_bare are
bare-values cs sets k (suc v) ls columns fit are =
    let p : ℕ → Bool = λ u. matches_all cs (narrowed sets k u) in
    let first = bare-values cs sets k v are.before columns fit are.are_before in
    let next : some_bare are.here ≡ p (0 + v) = bare-line cs (narrowed sets k v) (one v) are.here columns (fit_narrowed cs sets k v fit) are.are_here ∙ ap p (omega arith) in
    joined-any (λ (l : Line). nat_eq (length l.cube) 0) are.before are.here ls are.joined ∙ ((λ i. first i || next i) ∙ sym (any-range p 0 v))

empty-values : (cs : List Column) (sets : List ℕ) (k n : ℕ) (ls : List Line) → AreColumns cs → FitRow cs sets → EachValue cs sets k n ls → some_empty ls ≡ false
empty-values cs sets k zero ls columns fit are = ap some_empty are
empty-values cs sets k (suc v) ls columns fit are =
    let first = empty-values cs sets k v are.before columns fit are.are_before in
    let next : some_empty are.here ≡ false = empty-line cs (narrowed sets k v) (one v) are.here columns (fit_narrowed cs sets k v fit) are.are_here ∙ and_left _ _ (one_some v) in
    joined-any (λ (l : Line). nat_eq l.out empty) are.before are.here ls are.joined ∙ (λ i. first i || next i)

bare-entry : (cs : List Column) (sets : List ℕ) (e : Entry) (ls : List Line) → AreColumns cs → FitRow cs sets → EntryLines cs sets e ls → some_bare ls ≡ is_bare cs sets e
bare-entry cs sets (Set s) ls columns fit are = bare-line cs sets s ls columns fit are
bare-entry cs sets (Same k) ls columns fit are = bare-values cs sets k (count_at cs k) ls columns fit are

empty-entry : (cs : List Column) (sets : List ℕ) (e : Entry) (ls : List Line) → AreColumns cs → FitRow cs sets → EntryLines cs sets e ls → some_empty ls ≡ (says_nothing e && not (matches_none cs sets))
empty-entry cs sets (Set s) ls columns fit are = empty-line cs sets s ls columns fit are
empty-entry cs sets (Same k) ls columns fit are = empty-values cs sets k (count_at cs k) ls columns fit are

-- ---- the lines of the rows

bare-rows : (cs : List Column) (rows : List Row) (ls : List Line) → AreColumns cs → All (IsRow cs) rows → RowsLines cs rows ls → some_bare ls ≡ some_row_bare cs rows
bare-rows cs [] ls columns all are = ap some_bare are
bare-rows cs (r ∷ rows) ls columns all are =
    let first = bare-entry cs r.ins (only_entry r.outs) are.before columns (All-head (IsRow cs) r rows all).sets are.are_before in
    let rest = bare-rows cs rows are.here columns (All-tail (IsRow cs) r rows all) are.are_here in
    joined-any (λ (l : Line). nat_eq (length l.cube) 0) are.before are.here ls are.joined ∙ (λ i. first i || rest i)

empty-rows : (cs : List Column) (rows : List Row) (ls : List Line) → AreColumns cs → All (IsRow cs) rows → RowsLines cs rows ls → some_empty ls ≡ list_any (is_silent cs) rows
empty-rows cs [] ls columns all are = ap some_empty are
empty-rows cs (r ∷ rows) ls columns all are =
    let first = empty-entry cs r.ins (only_entry r.outs) are.before columns (All-head (IsRow cs) r rows all).sets are.are_before in
    let rest = empty-rows cs rows are.here columns (All-tail (IsRow cs) r rows all) are.are_here in
    joined-any (λ (l : Line). nat_eq l.out empty) are.before are.here ls are.joined ∙ (λ i. first i || rest i)

-- ---- the mark

unmarked_none : (flat : FlatTable) (ls : List Line) (default : Option ℕ) → flat ≡ unmarked ls default → is_some flat.mark ≡ false
unmarked_none flat ls default e = ap (λ (f : FlatTable). is_some f.mark) e

set_marked : (cs : List Column) (mark : NetId) (ls : List Line) (s : ℕ) (flat : FlatTable) (empty_there : Bool) → FlatBy cs mark ls (Set s) (cond empty_there None (Some s)) flat → is_some flat.mark ≡ empty_there
set_marked cs mark ls s flat true is = ap is_some is.mark_is
set_marked cs mark ls s flat false is = unmarked_none flat ls (Some s) is

entry_marked : (cs : List Column) (mark : NetId) (rows : List Row) (ls : List Line) (e : Entry) (flat : FlatTable) → some_empty ls ≡ list_any (is_silent cs) rows → FlatBy cs mark ls e (plain_default e ls) flat → is_some flat.mark ≡ needs_mark cs rows e
entry_marked cs mark rows ls (Set s) flat silent is = set_marked cs mark ls s flat (some_empty ls) is ∙ silent
entry_marked cs mark rows ls (Same k) flat silent is = ap is_some is.mark_is

left_marked : (cs : List Column) (mark : NetId) (rows : List Row) (ls : List Line) (e : Entry) (flat : FlatTable) (nothing bare : Bool) → some_empty ls ≡ list_any (is_silent cs) rows → FlatOf cs mark ls (cond (nothing || bare) None (Some e)) flat → is_some flat.mark ≡ (not nothing && not bare && needs_mark cs rows e)
left_marked cs mark rows ls e flat true bare silent is = unmarked_none flat ls None is
left_marked cs mark rows ls e flat false true silent is = unmarked_none flat ls None is
left_marked cs mark rows ls e flat false false silent is = entry_marked cs mark rows ls e flat silent is

by_default : (cs : List Column) (mark : NetId) (rows : List Row) (ls : List Line) (default : Option (List Entry)) (flat : FlatTable) → some_bare ls ≡ some_row_bare cs rows → some_empty ls ≡ list_any (is_silent cs) rows → FlatOf cs mark ls (default_left default ls) flat → is_some flat.mark ≡ default_marked cs rows default
by_default cs mark rows ls None flat bare silent is = unmarked_none flat ls None is
by_default cs mark rows ls (Some entries) flat bare silent is =
    left_marked cs mark rows ls (only_entry entries) flat (says_nothing (only_entry entries)) (some_bare ls) silent is
    ∙ ap (λ b. not (says_nothing (only_entry entries)) && not b && needs_mark cs rows (only_entry entries)) bare

pub marked_exactly : (cs : List Column) (t : FileTable) (mark : NetId) (flat : FlatTable) → AreColumns cs → IsTable cs t → IsMade cs t mark flat → is_some flat.mark ≡ is_marked cs t
unfolding is_marked
marked_exactly cs t mark flat columns table made =
    by_default cs mark t.rows made.lines t.default flat
    (bare-rows cs t.rows made.lines columns table.rows made.are)
    (empty-rows cs t.rows made.lines columns table.rows made.are)
    made.covers
