-- The rows without `=` of a row match and hold what the row does.
use Rattle.std.proofs.Common.{◌≡◌, ℕ, zero, suc, ◌<◌, Bool, true, false, not, ◌&&◌, nat_eq, List, [], ◌∷◌, ◌++◌, length, get_or, refl, sym, ◌∙◌, ap, arith, inl, inr, All}
use Rattle.std.specs.Prelude.{slice_index, slice_set}
use Rattle.std.specs.List.{list_any, flat_map, range_with_len}
use Rattle.std.proofs.Math.Bool.{and-true, and-false, or-false}
use Rattle.std.proofs.lemmas.Bool.{cases_Bool, and_left, and_right, eqb-true, lt-ltb, ltb-true}
use Rattle.std.proofs.lemmas.Cmp.{nat_eq_equiv}
use Rattle.std.proofs.lemmas.List.Elements.{All-nil, All-cons, All-head, All-tail}
use Rattle.mv_base.specs.Set.{has, one}
use Rattle.mv_base.proofs.Sets.{has-one}
use Rattle.mv_design.specs.declared.table.Entry.{Entry}
use Rattle.mv_design.specs.declared.table.Entry.TheVariants.{Set, Same}
use Rattle.mv_design.specs.declared.table.Row.{Row}
use Rattle.mv_design.specs.Tables.{row_matches, entry_holds, entries_hold, row_holds, some_row_matches, some_row_holds}
use Rattle.mv_rows.specs.declared.column.Column.{Column}
use Rattle.mv_rows.specs.Cubes.{column_values, in_range, FitRow}
use Rattle.mv_rows.specs.Lines.{FitEntry, count_at}
use Rattle.mv_rows.specs.Marked.{matches_none}
use Rattle.mv_rows.proofs.Orders.{fit_length}
use Rattle.mv_rows.proofs.Matching.{matched_nowhere}
use Rattle.mv_rows.proofs.Meanings.{value_in, values_length}
use Rattle.mv_joint.specs.declared.split.PlainRow.{PlainRow}
use Rattle.mv_joint.specs.Split.{narrowing, extended, split, is_possible, rows_of, all_rows, IsFit}
use Rattle.mv_joint.specs.Plain.{IsJointRow}
use Rattle.mv_joint.proofs.Splits.{all_fit_extended}
use Rattle.mv_joint.proofs.Anys.{any_same, any-flat_map, any-filter, one_is}

-- ---- one value alone

pub matched_alone : (sets values : List ℕ) (k v : ℕ) → has (slice_index sets k) v ≡ true → k < length sets → row_matches (slice_set sets k (one v)) values ≡ (nat_eq (get_or values k 0) v && row_matches sets values)
matched_alone [] values k v there low = absurd (omega arith)
matched_alone (s ∷ sets) [] zero v there low = sym (and-false _)
matched_alone (s ∷ sets) [] (suc k) v there low = sym (and-false _)
matched_alone (s ∷ sets) (x ∷ values) zero v there low =
    ap (λ b. b && row_matches sets values) (has-one v x)
    ∙ elim (cases_Bool (nat_eq x v)) [
      | inl same ↦
          let h : has s x ≡ true = ap (has s) (eqb-true x v same) ∙ there in
          rw same (sym (ap (λ b. b && row_matches sets values) h))
      | inr apart ↦ rw apart refl
    ]
matched_alone (s ∷ sets) (x ∷ values) (suc k) v there low =
    ap (λ b. has s x && b) (matched_alone sets values k v there (omega arith)) ∙ swapped (has s x) (nat_eq (get_or values k 0) v) (row_matches sets values)
  where
    swapped : (a b c : Bool) → (a && (b && c)) ≡ (b && (a && c))
    swapped true b c = refl
    swapped false true c = refl
    swapped false false c = refl

-- a row that hasn't the column's value doesn't match
pub not_matched : (sets values : List ℕ) (k v : ℕ) → has (slice_index sets k) v ≡ false → k < length sets → get_or values k 0 ≡ v → row_matches sets values ≡ false
not_matched [] values k v gone low e = absurd (omega arith)
not_matched (s ∷ sets) [] k v gone low e = refl
not_matched (s ∷ sets) (x ∷ values) zero v gone low e = and_left _ _ (ap (has s) e ∙ gone)
not_matched (s ∷ sets) (x ∷ values) (suc k) v gone low e = and_right _ _ (not_matched sets values k v gone (omega arith) e)

-- a test of rows that asks whether the row matches, and something that depends on the value of the column at place k
record Asks (r : PlainRow) (k : ℕ) (values : List ℕ) (q : PlainRow → Bool) (f : ℕ → Bool) : Type 0 where
  each : (v : ℕ) → q (record { ins = slice_set r.ins k (one v); outs = r.outs ++ one v ∷ [] }) ≡ (row_matches (slice_set r.ins k (one v)) values && f v)

and_move : (a b c : Bool) → ((a && b) && c) ≡ (a && (b && c))
and_move true b c = refl
and_move false b c = refl

any-narrowing : (r : PlainRow) (k : ℕ) (values : List ℕ) (q : PlainRow → Bool) (f : ℕ → Bool) → Asks r k values q f → k < length r.ins → (v : ℕ) → list_any q (narrowing k r v) ≡ (nat_eq (get_or values k 0) v && (row_matches r.ins values && f v))
any-narrowing r k values q f asks low v =
    elim (cases_Bool (has (slice_index r.ins k) v)) [
      | inl there ↦
          rw there
          (or-false _
          ∙ (asks.each v
          ∙ (ap (λ b. b && f v) (matched_alone r.ins values k v there low) ∙ and_move (nat_eq (get_or values k 0) v) (row_matches r.ins values) (f v))))
      | inr gone ↦
          rw gone
          (sym (elim (cases_Bool (nat_eq (get_or values k 0) v)) [
            | inl same ↦ rw same (and_left _ _ (not_matched r.ins values k v gone low (eqb-true _ _ same)))
            | inr apart ↦ rw apart refl
          ]))
    ]

any-narrowings : (r : PlainRow) (k n : ℕ) (values : List ℕ) (q : PlainRow → Bool) (f : ℕ → Bool) → Asks r k values q f → k < length r.ins → get_or values k 0 < n → list_any q (flat_map (narrowing k r) (range_with_len 0 n)) ≡ (row_matches r.ins values && f (get_or values k 0))
any-narrowings r k n values q f asks low high =
    any-flat_map q (narrowing k r) (range_with_len 0 n)
    ∙ (ap (λ (p : ℕ → Bool). list_any p (range_with_len 0 n)) (λ i v. any-narrowing r k values q f asks low v i)
    ∙ one_is (get_or values k 0) n (λ v. row_matches r.ins values && f v) high)

-- ---- rows with entries left

-- a row whose sets and whose entries left hold the outputs
abbrev rest_hold : List ℕ → List ℕ → List Entry → List ℕ → Bool
rest_hold values [] es outs = entries_hold values es outs
rest_hold values (s ∷ sets) es [] = false
rest_hold values (s ∷ sets) es (o ∷ outs) = has s o && rest_hold values sets es outs

rest_none : (values sets outs : List ℕ) → rest_hold values sets [] outs ≡ row_matches sets outs
rest_none values [] [] = refl
rest_none values [] (o ∷ outs) = refl
rest_none values (s ∷ sets) [] = refl
rest_none values (s ∷ sets) (o ∷ outs) = ap (λ b. has s o && b) (rest_none values sets outs)

rest_push : (values sets : List ℕ) (s : ℕ) (es : List Entry) (outs : List ℕ) → rest_hold values (sets ++ s ∷ []) es outs ≡ rest_hold values sets (Set s ∷ es) outs
rest_push values [] s es [] = refl
rest_push values [] s es (o ∷ outs) = refl
rest_push values (t ∷ sets) s es [] = refl
rest_push values (t ∷ sets) s es (o ∷ outs) = ap (λ b. has t o && b) (rest_push values sets s es outs)

rest_alike : (values sets : List ℕ) (e f : Entry) (es : List Entry) (outs : List ℕ) → ((o : ℕ) → entry_holds values e o ≡ entry_holds values f o) → rest_hold values sets (e ∷ es) outs ≡ rest_hold values sets (f ∷ es) outs
rest_alike values [] e f es [] same = refl
rest_alike values [] e f es (o ∷ outs) same = ap (λ b. b && entries_hold values es outs) (same o)
rest_alike values (s ∷ sets) e f es [] same = refl
rest_alike values (s ∷ sets) e f es (o ∷ outs) same = ap (λ b. has s o && b) (rest_alike values sets e f es outs same)

-- the value of a column as an entry of its own
entry_alone : (values : List ℕ) (k o : ℕ) → k < length values → entry_holds values (Set (one (get_or values k 0))) o ≡ entry_holds values (Same k) o
entry_alone values k o low = has-one (get_or values k 0) o ∙ (nat_eq_equiv.symm o (get_or values k 0) ∙ sym (ap (λ b. b && nat_eq (get_or values k 0) o) (lt-ltb k (length values) low)))

-- the row matches, and holds the outputs with these entries left
abbrev holds_with : List ℕ → List Entry → List ℕ → PlainRow → Bool
holds_with values es outs r = row_matches r.ins values && rest_hold values r.outs es outs

-- the row matches
abbrev pub matches_at : List ℕ → PlainRow → Bool
matches_at values r = row_matches r.ins values

-- the row matches, and its sets hold the outputs
abbrev pub holds_at : List ℕ → List ℕ → PlainRow → Bool
holds_at values outs r = row_matches r.ins values && row_matches r.outs outs

-- values of the columns' nets
pub record AreValues (cs : List Column) (values : List ℕ) : Type 0 where
  pub long : length values ≡ length cs
  pub below : (k : ℕ) → k < length cs → get_or values k 0 < count_at cs k

pub values_are : (at : ℕ → ℕ) (cs : List Column) → in_range at cs ≡ true → AreValues cs (column_values at cs)
values_are at cs range = record { long = values_length at cs; below = λ k low. ltb-true _ _ (value_in at cs k low range) }

holds-extended : (cs : List Column) (values outs : List ℕ) (e : Entry) (es : List Entry) (r : PlainRow) → AreValues cs values → FitEntry cs e → IsFit cs r → list_any (holds_with values es outs) (extended cs e r) ≡ holds_with values (e ∷ es) outs r
holds-extended cs values outs (Set s) es r are entry fit = or-false _ ∙ ap (λ b. row_matches r.ins values && b) (rest_push values r.outs s es outs)
holds-extended cs values outs (Same k) es r are entry fit =
    let place : k < length cs = entry in
    let x = get_or values k 0 in
    any-narrowings r k (count_at cs k) values (holds_with values es outs) (λ v. rest_hold values r.outs (Set (one v) ∷ es) outs)
    (record { each = λ v. ap (λ b. row_matches (slice_set r.ins k (one v)) values && b) (rest_push values r.outs (one v) es outs) })
    (omega (arith, fit_length cs r.ins fit.sets)) (are.below k place)
    ∙ ap (λ b. row_matches r.ins values && b) (rest_alike values r.outs (Set (one x)) (Same k) es outs (λ o. entry_alone values k o (omega (arith, are.long))))

matches-extended : (cs : List Column) (values : List ℕ) (e : Entry) (r : PlainRow) → AreValues cs values → FitEntry cs e → IsFit cs r → list_any (matches_at values) (extended cs e r) ≡ matches_at values r
matches-extended cs values (Set s) r are entry fit = or-false _
matches-extended cs values (Same k) r are entry fit =
    let place : k < length cs = entry in
    any-narrowings r k (count_at cs k) values (matches_at values) (λ v. true)
    (record { each = λ v. sym (and-true _) })
    (omega (arith, fit_length cs r.ins fit.sets)) (are.below k place)
    ∙ and-true _

holds-split : (cs : List Column) (values outs : List ℕ) (es : List Entry) (rows : List PlainRow) → AreValues cs values → All (FitEntry cs) es → All (IsFit cs) rows → list_any (holds_at values outs) (split cs es rows) ≡ list_any (holds_with values es outs) rows
holds-split cs values outs [] rows are entries fits =
    any_same (IsFit cs) (holds_at values outs) (holds_with values [] outs) (λ r _. ap (λ b. row_matches r.ins values && b) (sym (rest_none values r.outs outs))) rows fits
holds-split cs values outs (e ∷ es) rows are entries fits =
    holds-split cs values outs es (flat_map (extended cs e) rows) are (All-tail (FitEntry cs) e es entries) (all_fit_extended cs e rows fits)
    ∙ (any-flat_map (holds_with values es outs) (extended cs e) rows
    ∙ any_same (IsFit cs) (λ r. list_any (holds_with values es outs) (extended cs e r)) (holds_with values (e ∷ es) outs)
    (λ r fit. holds-extended cs values outs e es r are (All-head (FitEntry cs) e es entries) fit) rows fits)

matches-split : (cs : List Column) (values : List ℕ) (es : List Entry) (rows : List PlainRow) → AreValues cs values → All (FitEntry cs) es → All (IsFit cs) rows → list_any (matches_at values) (split cs es rows) ≡ list_any (matches_at values) rows
matches-split cs values [] rows are entries fits = refl
matches-split cs values (e ∷ es) rows are entries fits =
    matches-split cs values es (flat_map (extended cs e) rows) are (All-tail (FitEntry cs) e es entries) (all_fit_extended cs e rows fits)
    ∙ (any-flat_map (matches_at values) (extended cs e) rows
    ∙ any_same (IsFit cs) (λ r. list_any (matches_at values) (extended cs e r)) (matches_at values)
    (λ r fit. matches-extended cs values e r are (All-head (FitEntry cs) e es entries) fit) rows fits)

-- ---- the rows of a row

-- a row that matches nothing doesn't match
pub impossible : (at : ℕ → ℕ) (cs : List Column) (r : PlainRow) → in_range at cs ≡ true → is_possible cs r ≡ false → row_matches r.ins (column_values at cs) ≡ false
impossible at cs r range gone = matched_nowhere at cs r.ins range (not_false (matches_none cs r.ins) gone)
  where
    not_false : (b : Bool) → not b ≡ false → b ≡ true
    not_false true e = refl
    not_false false e = sym e

pub holds-rows : (at : ℕ → ℕ) (cs : List Column) (ins : List ℕ) (es : List Entry) (outs : List ℕ) → in_range at cs ≡ true → FitRow cs ins → All (FitEntry cs) es → list_any (holds_at (column_values at cs) outs) (rows_of cs ins es) ≡ (row_matches ins (column_values at cs) && entries_hold (column_values at cs) es outs)
holds-rows at cs ins es outs range fit entries =
    let start : PlainRow = record { ins = ins; outs = [] } in
    let values = column_values at cs in
    any-filter (holds_at values outs) (is_possible cs) (λ r gone. and_left _ _ (impossible at cs r range gone)) (split cs es (start ∷ []))
    ∙ (holds-split cs values outs es (start ∷ []) (values_are at cs range) entries (All-cons (IsFit cs) start [] (record { sets = fit }) (All-nil (IsFit cs)))
    ∙ or-false _)

pub matches-rows : (at : ℕ → ℕ) (cs : List Column) (ins : List ℕ) (es : List Entry) → in_range at cs ≡ true → FitRow cs ins → All (FitEntry cs) es → list_any (matches_at (column_values at cs)) (rows_of cs ins es) ≡ row_matches ins (column_values at cs)
matches-rows at cs ins es range fit entries =
    let start : PlainRow = record { ins = ins; outs = [] } in
    let values = column_values at cs in
    any-filter (matches_at values) (is_possible cs) (λ r gone. impossible at cs r range gone) (split cs es (start ∷ []))
    ∙ (matches-split cs values es (start ∷ []) (values_are at cs range) entries (All-cons (IsFit cs) start [] (record { sets = fit }) (All-nil (IsFit cs)))
    ∙ or-false _)

pub holds-all : (at : ℕ → ℕ) (cs : List Column) (n : ℕ) (rows : List Row) (outs : List ℕ) → in_range at cs ≡ true → All (IsJointRow cs n) rows → list_any (holds_at (column_values at cs) outs) (all_rows cs rows) ≡ some_row_holds rows (column_values at cs) outs
holds-all at cs n rows outs range all =
    any-flat_map (holds_at (column_values at cs) outs) (λ (r : Row). rows_of cs r.ins r.outs) rows
    ∙ any_same (IsJointRow cs n) (λ (r : Row). list_any (holds_at (column_values at cs) outs) (rows_of cs r.ins r.outs)) (λ (r : Row). row_holds r (column_values at cs) outs)
    (λ r is. holds-rows at cs r.ins r.outs outs range is.sets is.entries) rows all

pub matches-all : (at : ℕ → ℕ) (cs : List Column) (n : ℕ) (rows : List Row) → in_range at cs ≡ true → All (IsJointRow cs n) rows → list_any (matches_at (column_values at cs)) (all_rows cs rows) ≡ some_row_matches rows (column_values at cs)
matches-all at cs n rows range all =
    any-flat_map (matches_at (column_values at cs)) (λ (r : Row). rows_of cs r.ins r.outs) rows
    ∙ any_same (IsJointRow cs n) (λ (r : Row). list_any (matches_at (column_values at cs)) (rows_of cs r.ins r.outs)) (λ (r : Row). row_matches r.ins (column_values at cs))
    (λ r is. matches-rows at cs r.ins r.outs range is.sets is.entries) rows all
