-- A row with `=` tells whether one of its rows without matches everything, and whether one says nothing of an output.
use Rattle.std.proofs.Common.{◌≡◌, ℕ, zero, suc, ◌<◌, Bool, true, false, not, ◌&&◌, ◌||◌, nat_eq, List, [], ◌∷◌, ◌++◌, length, get_or}
use Rattle.std.proofs.Common.{refl, sym, ◌∙◌, ap, subst, arith, inl, inr, All}
use Rattle.std.specs.Prelude.{slice_index, slice_set}
use Rattle.std.specs.List.{list_all, list_any, flat_map, range_with_len}
use Rattle.std.proofs.Math.Bool.{and-true, or-false, or_assoc}
use Rattle.std.proofs.lemmas.Bool.{cases_Bool, cond_both, false≢true, or_parts, eqb-true, eq-eqb, ne_eqb, false_from_ne_true}
use Rattle.std.proofs.lemmas.List.Elements.{All-nil, All-cons, All-head, All-tail, All-append, All-filter}
use Rattle.std.proofs.lemmas.List.Folds.{list_any-append}
use Rattle.mv_base.specs.Set.{has, empty, one}
use Rattle.mv_cover.proofs.Points.{one_some}
use Rattle.mv_design.specs.declared.table.Entry.{Entry}
use Rattle.mv_design.specs.declared.table.Entry.TheVariants.{Set, Same}
use Rattle.mv_design.specs.declared.table.Row.{Row}
use Rattle.mv_design.specs.Tables.{row_matches}
use Rattle.mv_rows.specs.declared.column.Column.{Column}
use Rattle.mv_rows.specs.Cubes.{column_values, in_range, CountBy, IsColumn, AreColumns, FitRow}
use Rattle.mv_rows.specs.Lines.{FitEntry, count_at}
use Rattle.mv_rows.specs.Flat.{says_nothing}
use Rattle.mv_rows.specs.Marked.{matches_all, matches_none}
use Rattle.mv_rows.proofs.Orders.{fit_length}
use Rattle.mv_rows.proofs.Matching.{alone, alone-at, alone_ranges, matched_everywhere, matched_nowhere, all_from_everywhere, point_of_some}
use Rattle.mv_rows.proofs.Marked.{not_everywhere}
use Rattle.mv_joint.specs.declared.split.PlainRow.{PlainRow}
use Rattle.mv_joint.specs.Split.{narrowing, extended, split, is_possible, rows_of, all_rows, IsFit}
use Rattle.mv_joint.specs.Plain.{IsJointRow, is_silent, some_bare}
use Rattle.mv_joint.specs.Looks.{is_single, gives_bare, gives_silent}
use Rattle.mv_joint.proofs.Anys.{any_same, any-flat_map, any-filter_all, any-and}
use Rattle.mv_joint.proofs.Splits.{fit_one, all_fit_extended}
use Rattle.mv_joint.proofs.Fitting.{passing, split_fit}
use Rattle.mv_joint.proofs.Splitting.{matches_at, matched_alone, not_matched, values_are, impossible, matches-rows}

-- ---- rows that say nothing of an output

-- the row says nothing of an output exactly where b is true
abbrev pub SilentBy : Bool → PlainRow → Type 0
SilentBy b r = is_silent r ≡ b

silent_push : (b : Bool) (outs : List ℕ) (s : ℕ) → list_any (λ o. nat_eq o empty) outs ≡ b
    → list_any (λ o. nat_eq o empty) (outs ++ s ∷ []) ≡ (b || nat_eq s empty)
silent_push b outs s h = list_any-append (λ o. nat_eq o empty) outs (s ∷ []) ∙ (λ i. h i || or-false (nat_eq s empty) i)

silent_narrowing : (b : Bool) (k : ℕ) (r : PlainRow) (v : ℕ) → SilentBy b r → All (SilentBy b) (narrowing k r v)
silent_narrowing b k r v h =
    let row : PlainRow = record { ins = slice_set r.ins k (one v); outs = r.outs ++ one v ∷ [] } in
    let here : SilentBy b row = silent_push b r.outs (one v) h ∙ (ap (λ c. b || c) (one_some v) ∙ or-false b) in
    cond_both (has (slice_index r.ins k) v) (row ∷ []) [] (All (SilentBy b))
    (λ _. All-cons (SilentBy b) row [] here (All-nil (SilentBy b)))
    (λ _. All-nil (SilentBy b))

silent_narrowings : (b : Bool) (k : ℕ) (r : PlainRow) (vs : List ℕ) → SilentBy b r → All (SilentBy b) (flat_map (narrowing k r) vs)
silent_narrowings b k r [] h = All-nil (SilentBy b)
silent_narrowings b k r (v ∷ vs) h =
    All-append (SilentBy b) (narrowing k r v) (flat_map (narrowing k r) vs) (silent_narrowing b k r v h) (silent_narrowings b k r vs h)

silent_extended : (cs : List Column) (e : Entry) (b : Bool) (r : PlainRow) → SilentBy b r → All (SilentBy (b || says_nothing e)) (extended cs e r)
silent_extended cs (Set s) b r h =
    let Here : PlainRow → Type 0 = SilentBy (b || nat_eq s empty) in
    All-cons Here (record { ins = r.ins; outs = r.outs ++ s ∷ [] }) [] (silent_push b r.outs s h) (All-nil Here)
silent_extended cs (Same k) b r h =
    let rows = flat_map (narrowing k r) (range_with_len 0 (count_at cs k)) in
    subst (λ (c : Bool). All (SilentBy c) rows) (sym (or-false b)) (silent_narrowings b k r (range_with_len 0 (count_at cs k)) h)

all_silent_extended : (cs : List Column) (e : Entry) (b : Bool) (rows : List PlainRow) → All (SilentBy b) rows
    → All (SilentBy (b || says_nothing e)) (flat_map (extended cs e) rows)
all_silent_extended cs e b [] all = All-nil (SilentBy (b || says_nothing e))
all_silent_extended cs e b (r ∷ rows) all =
    All-append (SilentBy (b || says_nothing e)) (extended cs e r) (flat_map (extended cs e) rows)
    (silent_extended cs e b r (All-head (SilentBy b) r rows all))
    (all_silent_extended cs e b rows (All-tail (SilentBy b) r rows all))

silent_split : (cs : List Column) (es : List Entry) (b : Bool) (rows : List PlainRow) → All (SilentBy b) rows
    → All (SilentBy (b || list_any says_nothing es)) (split cs es rows)
silent_split cs [] b rows all = subst (λ (c : Bool). All (SilentBy c) rows) (sym (or-false b)) all
silent_split cs (e ∷ es) b rows all =
    subst (λ (c : Bool). All (SilentBy c) (split cs (e ∷ es) rows)) (or_assoc b (says_nothing e) (list_any says_nothing es))
    (silent_split cs es (b || says_nothing e) (flat_map (extended cs e) rows) (all_silent_extended cs e b rows all))

-- a row that matches something, with a set for each column
abbrev Possible : List Column → PlainRow → Type 0
Possible cs r = IsFit cs r × (is_possible cs r ≡ true)

not_true : (b : Bool) → not b ≡ true → b ≡ false
not_true true e = sym e
not_true false e = refl

-- where none of these rows matches anywhere, there are none
none_left : (cs : List Column) (rows : List PlainRow) → AreColumns cs → All (Possible cs) rows
    → ((at : ℕ → ℕ) → in_range at cs ≡ true → list_any (matches_at (column_values at cs)) rows ≡ false)
    → list_any (λ (r : PlainRow). true) rows ≡ false
none_left cs [] columns all none = refl
none_left cs (r ∷ rows) columns all none =
    let here = All-head (Possible cs) r rows all in
    let point = point_of_some cs r.ins columns here.0.sets (not_true (matches_none cs r.ins) here.1) in
    let gone = or_parts (matches_at (column_values point.at cs) r) (list_any (matches_at (column_values point.at cs)) rows) (none point.at point.range) in
    absurd (false≢true (sym gone.0 ∙ point.there))

some_left : {X : Type 0} (p : X → Bool) (xs : List X) → list_any p xs ≡ true → list_any (λ (x : X). true) xs ≡ true
some_left p [] h = h
some_left p (x ∷ xs) h = refl

-- a row has rows exactly where it matches something
some_row : (cs : List Column) (ins : List ℕ) (es : List Entry) → AreColumns cs → FitRow cs ins → All (FitEntry cs) es
    → list_any (λ (r : PlainRow). true) (rows_of cs ins es) ≡ not (matches_none cs ins)
some_row cs ins es columns fit entries =
    let start : PlainRow = record { ins = ins; outs = [] } in
    let fits = split_fit cs es (start ∷ []) (All-cons (IsFit cs) start [] (record { sets = fit }) (All-nil (IsFit cs))) in
    elim (cases_Bool (matches_none cs ins)) [
      | inl none ↦
          none_left cs (rows_of cs ins es) columns (passing (IsFit cs) (is_possible cs) (split cs es (start ∷ [])) fits)
          (λ at range. matches-rows at cs ins es range fit entries ∙ matched_nowhere at cs ins range none)
          ∙ sym (ap not none)
      | inr some ↦
          let point = point_of_some cs ins columns fit some in
          some_left (matches_at (column_values point.at cs)) (rows_of cs ins es) (matches-rows point.at cs ins es point.range fit entries ∙ point.there)
          ∙ sym (ap not some)
    ]

-- each of a row's rows says nothing of an output where an entry of the row has no value, and none does elsewhere
pub silent_by_entries : (cs : List Column) (ins : List ℕ) (es : List Entry) → All (SilentBy (list_any says_nothing es)) (rows_of cs ins es)
silent_by_entries cs ins es =
    let start : PlainRow = record { ins = ins; outs = [] } in
    let first : All (SilentBy false) (start ∷ []) = All-cons (SilentBy false) start [] refl (All-nil (SilentBy false)) in
    All-filter (is_possible cs) (SilentBy (list_any says_nothing es)) (split cs es (start ∷ [])) (silent_split cs es false (start ∷ []) first)

silent-rows : (cs : List Column) (ins : List ℕ) (es : List Entry) → AreColumns cs → FitRow cs ins → All (FitEntry cs) es
    → list_any is_silent (rows_of cs ins es) ≡ (list_any says_nothing es && not (matches_none cs ins))
silent-rows cs ins es columns fit entries =
    let b = list_any says_nothing es in
    any_same (SilentBy b) is_silent (λ r. b && true) (λ r h. h ∙ sym (and-true b)) (rows_of cs ins es) (silent_by_entries cs ins es)
    ∙ (any-and b (λ (r : PlainRow). true) (rows_of cs ins es) ∙ ap (λ c. b && c) (some_row cs ins es columns fit entries))

-- ---- rows that match everything

-- the row matches everything
abbrev everywhere : List Column → PlainRow → Bool
everywhere cs r = matches_all cs r.ins

-- rows that match at the same values
record MatchAlike (cs : List Column) (a b : List ℕ) : Type 0 where
  same : (at : ℕ → ℕ) → in_range at cs ≡ true → row_matches a (column_values at cs) ≡ row_matches b (column_values at cs)

all_alike : (cs : List Column) (a b : List ℕ) → AreColumns cs → FitRow cs a → MatchAlike cs a b → matches_all cs a ≡ true → matches_all cs b ≡ true
all_alike cs a b columns fit alike h =
    all_from_everywhere cs b columns (record { there = λ at range. sym (alike.same at range) ∙ matched_everywhere at cs a fit range h })

everywhere_alike : (cs : List Column) (a b : List ℕ) → AreColumns cs → FitRow cs a → FitRow cs b → MatchAlike cs a b → matches_all cs a ≡ matches_all cs b
everywhere_alike cs a b columns fit_a fit_b alike =
    let back : MatchAlike cs b a = record { same = λ at range. sym (alike.same at range) } in
    elim (cases_Bool (matches_all cs a)) [
      | inl all ↦ all ∙ sym (all_alike cs a b columns fit_a alike all)
      | inr some ↦ some ∙ sym (false_from_ne_true _ (λ all. false≢true (sym some ∙ all_alike cs b a columns fit_b back all)))
    ]

-- the net of the column at place k
record IsNetAt (count : ℕ → ℕ) (cs : List Column) (k : ℕ) : Type 0 where
  net : ℕ
  value : (at : ℕ → ℕ) → get_or (column_values at cs) k 0 ≡ at net
  counted : count_at cs k ≡ count net
  some : 0 < count_at cs k

net_at : (count : ℕ → ℕ) (cs : List Column) (k : ℕ) → CountBy count cs → All IsColumn cs → k < length cs → IsNetAt count cs k
net_at count [] k by each low = absurd (omega arith)
net_at count (c ∷ cs) zero by each low = record {
  net = c.net.0;
  value = λ at. refl;
  counted = All-head (λ (d : Column). d.count ≡ count d.net.0) c cs by;
  some = (All-head IsColumn c cs each).some;
}
net_at count (c ∷ cs) (suc k) by each low =
    let rest = net_at count cs k (All-tail (λ (d : Column). d.count ≡ count d.net.0) c cs by) (All-tail IsColumn c cs each) (omega arith) in
    record { net = rest.net; value = rest.value; counted = rest.counted; some = rest.some }

-- a column of one value has that value
only_value : (at : ℕ → ℕ) (cs : List Column) (k : ℕ) → in_range at cs ≡ true → k < length cs → count_at cs k ≡ 1 → get_or (column_values at cs) k 0 ≡ 0
only_value at cs k range place single = omega (arith, (values_are at cs range).below k place)

everywhere_single : (cs : List Column) (k : ℕ) (r : PlainRow) → AreColumns cs → IsFit cs r → k < length cs → count_at cs k ≡ 1
    → list_any (everywhere cs) (narrowing k r 0) ≡ everywhere cs r
everywhere_single cs k r columns fit place single =
    let low : k < length r.ins = omega (arith, fit_length cs r.ins fit.sets) in
    elim (cases_Bool (has (slice_index r.ins k) 0)) [
      | inl there ↦
          rw there
          (or-false _
          ∙ everywhere_alike cs (slice_set r.ins k (one 0)) r.ins columns (fit_one cs r.ins k 0 fit.sets there) fit.sets
          (record {
            same = λ at range.
                matched_alone r.ins (column_values at cs) k 0 there low
                ∙ ap (λ b. b && row_matches r.ins (column_values at cs)) (eq-eqb _ _ (only_value at cs k range place single));
          }))
      | inr gone ↦
          rw gone
          (sym
          (not_everywhere cs r.ins columns fit.sets
          (record { nowhere = λ at range. not_matched r.ins (column_values at cs) k 0 gone low (only_value at cs k range place single) })))
    ]

-- a value other than v
abbrev other : ℕ → ℕ
other zero = 1
other (suc v) = 0

other_low : (v n : ℕ) → 1 < n → other v < n
other_low zero n more = more
other_low (suc v) n more = omega arith

other_apart : (v : ℕ) → nat_eq (other v) v ≡ false
other_apart zero = refl
other_apart (suc v) = ne_eqb 0 (suc v) (λ e. absurd (omega arith))

everywhere_narrowing : (cs : List Column) (k : ℕ) (r : PlainRow) (v : ℕ) → AreColumns cs → IsFit cs r → k < length cs → 1 < count_at cs k
    → list_any (everywhere cs) (narrowing k r v) ≡ false
everywhere_narrowing cs k r v columns fit place more =
    let low : k < length r.ins = omega (arith, fit_length cs r.ins fit.sets) in
    let n = net_at columns.count cs k columns.counts columns.each place in
    let at : ℕ → ℕ = alone n.net (other v) in
    let values = column_values at cs in
    let below : other v < columns.count n.net = subst (λ (c : ℕ). other v < c) n.counted (other_low v (count_at cs k) more) in
    let range : in_range at cs ≡ true = alone_ranges columns.count n.net (other v) below cs columns.each columns.counts in
    let apart : nat_eq (get_or values k 0) v ≡ false = ap (λ x. nat_eq x v) (n.value at ∙ alone-at n.net (other v)) ∙ other_apart v in
    elim (cases_Bool (has (slice_index r.ins k) v)) [
      | inl there ↦
          let missed : row_matches (slice_set r.ins k (one v)) values ≡ false =
          matched_alone r.ins values k v there low ∙ ap (λ b. b && row_matches r.ins values) apart in
          rw there
          (or-false _
          ∙ false_from_ne_true _
          (λ all. false≢true (sym missed ∙ matched_everywhere at cs (slice_set r.ins k (one v)) (fit_one cs r.ins k v fit.sets there) range all)))
      | inr gone ↦ rw gone refl
    ]

any_none : {X : Type 0} (p : X → Bool) → ((x : X) → p x ≡ false) → (xs : List X) → list_any p xs ≡ false
any_none p none [] = refl
any_none p none (x ∷ xs) = ap (λ b. b || list_any p xs) (none x) ∙ any_none p none xs

everywhere-extended : (cs : List Column) (e : Entry) (r : PlainRow) → AreColumns cs → FitEntry cs e → IsFit cs r
    → list_any (everywhere cs) (extended cs e r) ≡ (is_single cs e && everywhere cs r)
everywhere-extended cs (Set s) r columns entry fit = or-false _
everywhere-extended cs (Same k) r columns entry fit =
    let place : k < length cs = entry in
    elim (cases_Bool (nat_eq (count_at cs k) 1)) [
      | inl single ↦
          let count : count_at cs k ≡ 1 = eqb-true _ _ single in
          ap (λ (n : ℕ). list_any (everywhere cs) (flat_map (narrowing k r) (range_with_len 0 n))) count
          ∙ (any-flat_map (everywhere cs) (narrowing k r) (range_with_len 0 1)
          ∙ (or-false _
          ∙ (everywhere_single cs k r columns fit place count ∙ sym (ap (λ b. b && everywhere cs r) single))))
      | inr several ↦
          let some : 0 < count_at cs k = (net_at columns.count cs k columns.counts columns.each place).some in
          let apart : count_at cs k ≡ 1 → ⊥ = λ e. false≢true (sym several ∙ eq-eqb (count_at cs k) 1 e) in
          let more : 1 < count_at cs k = omega arith in
          any-flat_map (everywhere cs) (narrowing k r) (range_with_len 0 (count_at cs k))
          ∙ (any_none (λ v. list_any (everywhere cs) (narrowing k r v)) (λ v. everywhere_narrowing cs k r v columns fit place more)
          (range_with_len 0 (count_at cs k))
          ∙ sym (ap (λ b. b && everywhere cs r) several))
    ]

first_to_front : (a b c : Bool) → (a && (b && c)) ≡ ((b && a) && c)
first_to_front true true c = refl
first_to_front true false c = refl
first_to_front false true c = refl
first_to_front false false c = refl

everywhere-split : (cs : List Column) (es : List Entry) (rows : List PlainRow) → AreColumns cs → All (FitEntry cs) es → All (IsFit cs) rows
    → list_any (everywhere cs) (split cs es rows) ≡ (list_all (is_single cs) es && list_any (everywhere cs) rows)
everywhere-split cs [] rows columns entries fits = refl
everywhere-split cs (e ∷ es) rows columns entries fits =
    let here = All-head (FitEntry cs) e es entries in
    let rest = All-tail (FitEntry cs) e es entries in
    everywhere-split cs es (flat_map (extended cs e) rows) columns rest (all_fit_extended cs e rows fits)
    ∙ (ap (λ b. list_all (is_single cs) es && b)
    (any-flat_map (everywhere cs) (extended cs e) rows
    ∙ (any_same (IsFit cs) (λ r. list_any (everywhere cs) (extended cs e r)) (λ r. is_single cs e && everywhere cs r)
    (λ r fit. everywhere-extended cs e r columns here fit) rows fits
    ∙ any-and (is_single cs e) (everywhere cs) rows))
    ∙ first_to_front (list_all (is_single cs) es) (is_single cs e) (list_any (everywhere cs) rows))

everywhere-rows : (cs : List Column) (ins : List ℕ) (es : List Entry) → AreColumns cs → FitRow cs ins → All (FitEntry cs) es
    → list_any (everywhere cs) (rows_of cs ins es) ≡ (list_all (is_single cs) es && matches_all cs ins)
everywhere-rows cs ins es columns fit entries =
    let start : PlainRow = record { ins = ins; outs = [] } in
    let first : All (IsFit cs) (start ∷ []) = All-cons (IsFit cs) start [] (record { sets = fit }) (All-nil (IsFit cs)) in
    any-filter_all (IsFit cs) (everywhere cs) (is_possible cs)
    (λ r is gone. not_everywhere cs r.ins columns is.sets (record { nowhere = λ at range. impossible at cs r range gone }))
    (split cs es (start ∷ [])) (split_fit cs es (start ∷ []) first)
    ∙ (everywhere-split cs es (start ∷ []) columns entries first ∙ ap (λ b. list_all (is_single cs) es && b) (or-false (matches_all cs ins)))

-- ---- the rows of all rows

pub silent-all : (cs : List Column) (n : ℕ) (rows : List Row) → AreColumns cs → All (IsJointRow cs n) rows
    → list_any is_silent (all_rows cs rows) ≡ list_any (gives_silent cs) rows
silent-all cs n rows columns all =
    any-flat_map is_silent (λ (r : Row). rows_of cs r.ins r.outs) rows
    ∙ any_same (IsJointRow cs n) (λ (r : Row). list_any is_silent (rows_of cs r.ins r.outs)) (gives_silent cs)
    (λ r is. silent-rows cs r.ins r.outs columns is.sets is.entries) rows all

pub bare-all : (cs : List Column) (n : ℕ) (rows : List Row) → AreColumns cs → All (IsJointRow cs n) rows
    → some_bare cs (all_rows cs rows) ≡ list_any (gives_bare cs) rows
bare-all cs n rows columns all =
    any-flat_map (everywhere cs) (λ (r : Row). rows_of cs r.ins r.outs) rows
    ∙ any_same (IsJointRow cs n) (λ (r : Row). list_any (everywhere cs) (rows_of cs r.ins r.outs)) (gives_bare cs)
    (λ r is. everywhere-rows cs r.ins r.outs columns is.sets is.entries) rows all
