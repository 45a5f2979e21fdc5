-- What a look at a table's rows tells of its mark.
use Rattle.std.proofs.Common.{◌≡◌, ℕ, zero, suc, ◌<◌, ◌≤◌, Bool, true, false, ◌&&◌, ◌||◌, not, List, [], ◌∷◌, map, Option, Some, None, refl, sym, ◌∙◌, ap, subst, arith, length, ⊎_elim, All}
use Rattle.std.specs.Prelude.{nat_eq, nat_lt, slice_index, slice_set}
use Rattle.std.specs.List.{list_any}
use Rattle.std.proofs.lemmas.Bool.{and_from, and_left, and_parts, and_right, cases_lt, cond-false, eq-eqb, eqb-true, false≢true, false_from_ne_true, lt-ltb, ltb-true, not-true, or_cases, or_from, or_left, or_parts, or_right}
use Rattle.std.proofs.lemmas.List.Elements.{All-head, All-tail}
use Rattle.mv_base.specs.Set.{has, full, meet, one, Within}
use Rattle.mv_base.proofs.Sets.{has-full, has-meet, same_set}
use Rattle.mv_base.proofs.Lists.{found}
use Rattle.mv_design.specs.declared.design.Decl.{Decl}
use Rattle.mv_design.specs.declared.table.Entry.{Entry}
use Rattle.mv_design.specs.declared.table.Entry.TheVariants.{Set, Same}
use Rattle.mv_design.specs.declared.table.Row.{Row}
use Rattle.mv_design.specs.declared.table.FileTable.{FileTable}
use Rattle.mv_resets.specs.NetModels.{HasLawfulValues, IsNetTable}
use Rattle.mv_design.specs.Tables.{row_matches}
use Rattle.mv_rows.specs.declared.column.Column.{Column}
use Rattle.mv_rows.specs.Cubes.{column_values, in_range, IsColumn, AreColumns, CountBy, FitRow}
use Rattle.mv_rows.specs.Flat.{only_entry, says_nothing, IsRow}
use Rattle.mv_rows.specs.Lines.{narrowed}
use Rattle.mv_rows.specs.Marked.{matches_all, is_bare, some_row_bare, is_silent, needs_mark, default_marked, is_marked}
use Rattle.mv_rows.proofs.Matching.{matched_everywhere, alone, alone-at, alone_ranges}
use Rattle.mv_joint.specs.Plain.{is_same}
use Rattle.mv_rows.proofs.Values.{fit_narrowed}
use Rattle.mv_flat.specs.Numbers.{column_of, columns_at}
use Rattle.mv_flat.specs.Places.{has_mark, is_joint}
use Rattle.mv_shapes.specs.Rows.{some_silent, are_full, some_full}
use Rattle.mv_flat.specs.Gathered.{can_stand, counts_of, none_or_stands, is_plain}
use Rattle.mv_flat.specs.Placed.{IsPlacedTable}
use Rattle.mv_flat.proofs.Known.{known}
use Rattle.mv_flat.proofs.Singles.{single_output}
use Rattle.mv_flat.proofs.Shapes.{table_columns, table_is}

-- ---- rows that say no value

none_silent : (columns : List Column) (rows : List Row) → some_silent rows ≡ false → list_any (is_silent columns) rows ≡ false
none_silent columns [] h = refl
none_silent columns (r ∷ rows) h =
    let p = or_parts (says_nothing (only_entry r.outs)) (some_silent rows) h in
    or_from (is_silent columns r) (list_any (is_silent columns) rows) (and_left (says_nothing (only_entry r.outs)) _ p.0) (none_silent columns rows p.1)

-- ---- rows that match everything have all values of each column

same_full : (s n : ℕ) → Within s (full n) → ((v : ℕ) → v < n → has s v ≡ true) → s ≡ full n
same_full s n within each = same_set s (full n) at
  where
    at : (v : ℕ) → has s v ≡ has (full n) v
    at v =
        ⊎_elim (λ (low : v < n). each v low ∙ sym (has-full n v ∙ lt-ltb v n low))
        (λ (high : n ≤ v).
        let out : has (full n) v ≡ false = has-full n v ∙ false_from_ne_true (nat_lt v n) (λ y. omega (arith, high, ltb-true v n y)) in
        false_from_ne_true (has s v) (λ y. false≢true (sym out ∙ within v y)) ∙ sym out)
        (cases_lt v n)

-- the row has all values of each column
abbrev has_each : List Column → List ℕ → Bool
has_each [] sets = true
has_each (c ∷ cs) [] = true
has_each (c ∷ cs) (s ∷ sets) = nat_eq s (full c.count) && has_each cs sets

each_from_everywhere : (ds cs : List Column) (sets : List ℕ) (count : ℕ → ℕ) → All IsColumn ds → CountBy count ds → CountBy count cs → FitRow cs sets → ((at : ℕ → ℕ) → in_range at ds ≡ true → row_matches sets (column_values at cs) ≡ true) → has_each cs sets ≡ true
each_from_everywhere ds [] sets count some counts own fit h = refl
each_from_everywhere ds (c ∷ cs) [] count some counts own fit h = absurd fit
each_from_everywhere ds (c ∷ cs) (s ∷ sets) count some counts own fit h =
    let Counted : Column → Type 0 = λ d. d.count ≡ count d.net.0 in
    let is : c.count ≡ count c.net.0 = All-head Counted c cs own in
    and_from (nat_eq s (full c.count)) (has_each cs sets)
    (eq-eqb s (full c.count) (same_full s c.count fit.0 (λ v low.
    let p = and_parts (has s (alone c.net.0 v c.net.0)) _ (h (alone c.net.0 v) (alone_ranges count c.net.0 v (subst (λ (n : ℕ). v < n) is low) ds some counts)) in
    ap (has s) (sym (alone-at c.net.0 v)) ∙ p.0)))
    (each_from_everywhere ds cs sets count some counts (All-tail Counted c cs own) fit.1 (λ at range. (and_parts (has s (at c.net.0)) _ (h at range)).1))

all_has_each : (cs : List Column) (sets : List ℕ) → AreColumns cs → FitRow cs sets → matches_all cs sets ≡ true → has_each cs sets ≡ true
all_has_each cs sets are fit h =
    each_from_everywhere cs cs sets are.count are.each are.counts are.counts fit (λ at range. matched_everywhere at cs sets fit range h)

-- so has a row from which some value was taken alone
each_from_narrowed : (cs : List Column) (sets : List ℕ) (k x : ℕ) → FitRow cs sets → has_each cs (slice_set sets k (meet (slice_index sets k) x)) ≡ true → has_each cs sets ≡ true
each_from_narrowed [] sets k x fit h = refl
each_from_narrowed (c ∷ cs) [] k x fit h = absurd fit
each_from_narrowed (c ∷ cs) (s ∷ sets) zero x fit h =
    let p = and_parts (nat_eq (meet s x) (full c.count)) (has_each cs sets) h in
    and_from (nat_eq s (full c.count)) (has_each cs sets)
    (eq-eqb s (full c.count) (same_full s c.count fit.0 (λ v low.
    (and_parts (has s v) (has x v) (sym (has-meet s x v) ∙ (ap (λ y. has y v) (eqb-true _ _ p.0) ∙ (has-full c.count v ∙ lt-ltb v c.count low)))).0)))
    p.1
each_from_narrowed (c ∷ cs) (s ∷ sets) (suc k) x fit h =
    let p = and_parts (nat_eq s (full c.count)) _ h in
    and_from (nat_eq s (full c.count)) (has_each cs sets) p.0 (each_from_narrowed cs sets k x fit.1 p.1)

bare_has_each : (cs : List Column) (sets : List ℕ) (e : Entry) → AreColumns cs → FitRow cs sets → is_bare cs sets e ≡ true → has_each cs sets ≡ true
bare_has_each cs sets (Set s) are fit h = all_has_each cs sets are fit h
bare_has_each cs sets (Same k) are fit h =
    let f = found (λ v. matches_all cs (narrowed sets k v)) _ h in
    each_from_narrowed cs sets k (one f.item) fit (all_has_each cs (narrowed sets k f.item) are (fit_narrowed cs sets k f.item fit) f.passes)

some_bare_has : (cs : List Column) (rows : List Row) → AreColumns cs → All (IsRow cs) rows → some_row_bare cs rows ≡ true → list_any (λ (r : Row). has_each cs r.ins) rows ≡ true
some_bare_has cs [] are fit h = h
some_bare_has cs (r ∷ rows) are fit h =
    let here = All-head (IsRow cs) r rows fit in
    ⊎_elim (λ (y : is_bare cs r.ins (only_entry r.outs) ≡ true). or_left _ _ (bare_has_each cs r.ins (only_entry r.outs) are here.sets y))
    (λ (y : some_row_bare cs rows ≡ true). or_right (has_each cs r.ins) _ (some_bare_has cs rows are (All-tail (IsRow cs) r rows fit) y))
    (or_cases _ _ h)

-- by name and by number
all_each : (ds : List Decl) (names ws : List (List ℕ)) (sets : List ℕ) → has_each (map (column_of ds names) ws) sets ≡ are_full (counts_of ds ws) sets
all_each ds names [] sets = refl
all_each ds names (w ∷ ws) [] = refl
all_each ds names (w ∷ ws) (s ∷ sets) = ap (λ b. nat_eq s (full (column_of ds names w).count) && b) (all_each ds names ws sets)

some_each : (ds : List Decl) (names ws : List (List ℕ)) (rows : List Row)
    → list_any (λ (r : Row). has_each (map (column_of ds names) ws) r.ins) rows ≡ some_full (counts_of ds ws) rows
some_each ds names ws [] = refl
some_each ds names ws (r ∷ rows) = λ i. all_each ds names ws r.ins i || some_each ds names ws rows i

none_bare : (ds : List Decl) (t : FileTable) → All HasLawfulValues ds → IsPlacedTable ds t.inputs t → length t.outputs ≡ 1
    → some_full (counts_of ds t.inputs) t.rows ≡ false → some_row_bare (columns_at ds t.inputs t) t.rows ≡ false
none_bare ds t all p single h =
    let cs = columns_at ds t.inputs t in
    false_from_ne_true (some_row_bare cs t.rows) (λ y.
    false≢true (sym h ∙ (sym (some_each ds t.inputs t.inputs t.rows) ∙ some_bare_has cs t.rows (table_columns ds t.inputs t all p) (table_is ds t.inputs t p single).rows y)))

-- ---- what is told

own_placed : (ds : List Decl) (t : FileTable) → IsNetTable ds t → IsPlacedTable ds t.inputs t
own_placed ds t f = record { fits = f; known = known t.inputs t.inputs (λ w h. h) }

stands_unmarked : (cs : List Column) (rows : List Row) (e : Entry) → can_stand rows e ≡ true → needs_mark cs rows e ≡ false
stands_unmarked cs rows (Set s) h = none_silent cs rows (not-true (some_silent rows) h)
stands_unmarked cs rows (Same k) h = absurd (false≢true h)

plain_unmarked : (cs : List Column) (rows : List Row) (o : Option (List Entry)) → none_or_stands rows o ≡ true → default_marked cs rows o ≡ false
plain_unmarked cs rows None h = refl
plain_unmarked cs rows (Some entries) h = and_right _ _ (stands_unmarked cs rows (only_entry entries) h)

single_mark : (ds : List Decl) (t : FileTable) → is_joint t ≡ false → is_marked (columns_at ds t.inputs t) t ≡ has_mark ds t
unfolding has_mark
single_mark ds t single = sym (cond-false (is_joint t) _ _ single)

pub plain_told : (ds : List Decl) (t : FileTable) → is_joint t ≡ false → is_plain t ≡ true → false ≡ has_mark ds t
unfolding is_marked
plain_told ds t single h = sym (plain_unmarked (columns_at ds t.inputs t) t.rows t.default h) ∙ single_mark ds t single

same_speaks : (e : Entry) → is_same e ≡ true → not (says_nothing e) ≡ true
same_speaks (Set s) h = absurd (false≢true h)
same_speaks (Same k) h = refl

same_needs : (cs : List Column) (rows : List Row) (e : Entry) → is_same e ≡ true → needs_mark cs rows e ≡ true
same_needs cs rows (Set s) h = absurd (false≢true h)
same_needs cs rows (Same k) h = refl

same_marked : (cs : List Column) (rows : List Row) (entries : List Entry) → is_same (only_entry entries) ≡ true → some_row_bare cs rows ≡ false → default_marked cs rows (Some entries) ≡ true
same_marked cs rows entries e h =
    and_from _ _ (and_from _ _ (same_speaks (only_entry entries) e) (ap not h)) (same_needs cs rows (only_entry entries) e)

pub same_told : (ds : List Decl) (t : FileTable) (entries : List Entry) → All HasLawfulValues ds → IsNetTable ds t → is_joint t ≡ false
    → t.default ≡ Some entries → is_same (only_entry entries) ≡ true → some_full (counts_of ds t.inputs) t.rows ≡ false → true ≡ has_mark ds t
unfolding is_marked
same_told ds t entries all f single e o h =
    let cs = columns_at ds t.inputs t in
    let bare = none_bare ds t all (own_placed ds t f) (single_output t single f.some) h in
    sym (ap (default_marked cs t.rows) e ∙ same_marked cs t.rows entries o bare) ∙ single_mark ds t single

pub ruleset told = (plain_told, same_told)
