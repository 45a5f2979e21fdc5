-- A row gives a line without literals where it matches everything, and the column that its entry names, if it names one, has one
-- value.
use Rattle.std.proofs.Common.{◌≡◌, ℕ, zero, suc, ◌<◌, Bool, true, false, ◌&&◌, ◌||◌, nat_eq, List, [], ◌∷◌, length, get_or, inl, inr, refl, sym, ◌∙◌, ap, subst, arith, All}
use Rattle.std.specs.Prelude.{nat_lt}
use Rattle.std.specs.List.{list_any, range_with_len}
use Rattle.std.proofs.Math.Bool.{and-false, or-false}
use Rattle.std.proofs.lemmas.Bool.{cases_Bool, false≢true, and_parts, eqb-true, eq-eqb, ne_eqb, false_from_ne_true, ltb-true}
use Rattle.std.proofs.lemmas.List.Elements.{All-head, All-tail}
use Rattle.mv_base.specs.Set.{has, one}
use Rattle.mv_base.proofs.Sets.{has-meet, has-one}
use Rattle.mv_design.specs.declared.table.Entry.{Entry}
use Rattle.mv_design.specs.declared.table.Entry.TheVariants.{Set, Same}
use Rattle.mv_design.specs.Tables.{row_matches}
use Rattle.mv_rows.specs.declared.column.Column.{Column}
use Rattle.mv_rows.specs.Cubes.{column_values, in_range, CountBy, IsColumn, AreColumns, FitRow}
use Rattle.mv_rows.specs.Lines.{FitEntry, narrowed, count_at}
use Rattle.mv_rows.specs.Marked.{matches_all, is_bare}
use Rattle.mv_rows.specs.Single.{is_single}
use Rattle.mv_rows.proofs.Matching.{alone, alone-at, alone_ranges, matched_everywhere, all_from_everywhere}
use Rattle.mv_rows.proofs.Orders.{fit_length}
use Rattle.mv_rows.proofs.Values.{fit_narrowed}

-- ---- where a row with one value alone in a column matches

to_front : (a b c : Bool) → ((a && b) && c) ≡ (b && (a && c))
to_front true b c = refl
to_front false true c = refl
to_front false false c = refl

past : (a b c : Bool) → (a && (b && c)) ≡ (b && (a && c))
past true b c = refl
past false true c = refl
past false false c = refl

matched_alone : (sets values : List ℕ) (k v : ℕ) → k < length sets → row_matches (narrowed sets k v) values ≡ (nat_eq (get_or values k 0) v && row_matches sets values)
matched_alone [] values k v low = absurd (omega arith)
matched_alone (s ∷ sets) [] zero v low = sym (and-false _)
matched_alone (s ∷ sets) [] (suc k) v low = sym (and-false _)
matched_alone (s ∷ sets) (u ∷ values) zero v low =
    ap (λ b. b && row_matches sets values) (has-meet s (one v) u ∙ ap (λ b. has s u && b) (has-one v u)) ∙ to_front (has s u) (nat_eq u v) (row_matches sets values)
matched_alone (s ∷ sets) (u ∷ values) (suc k) v low =
    ap (λ b. has s u && b) (matched_alone sets values k v (omega arith)) ∙ past (has s u) (nat_eq (get_or values k 0) v) (row_matches sets values)

-- ---- the column at a place

-- its net
abbrev net_of : List Column → ℕ → ℕ
net_of [] k = 0
net_of (c ∷ cs) zero = c.net.0
net_of (c ∷ cs) (suc k) = net_of cs k

value_at : (at : ℕ → ℕ) (cs : List Column) (k : ℕ) → k < length cs → get_or (column_values at cs) k 0 ≡ at (net_of cs k)
value_at at [] k low = absurd (omega arith)
value_at at (c ∷ cs) zero low = refl
value_at at (c ∷ cs) (suc k) low = value_at at cs k (omega arith)

counted_at : (count : ℕ → ℕ) (cs : List Column) (k : ℕ) → CountBy count cs → k < length cs → count_at cs k ≡ count (net_of cs k)
counted_at count [] k by low = absurd (omega arith)
counted_at count (c ∷ cs) zero by low = All-head (λ (d : Column). d.count ≡ count d.net.0) c cs by
counted_at count (c ∷ cs) (suc k) by low = counted_at count cs k (All-tail (λ (d : Column). d.count ≡ count d.net.0) c cs by) (omega arith)

some_at : (cs : List Column) (k : ℕ) → All IsColumn cs → k < length cs → 0 < count_at cs k
some_at [] k each low = absurd (omega arith)
some_at (c ∷ cs) zero each low = (All-head IsColumn c cs each).some
some_at (c ∷ cs) (suc k) each low = some_at cs k (All-tail IsColumn c cs each) (omega arith)

below_at : (at : ℕ → ℕ) (cs : List Column) (k : ℕ) → in_range at cs ≡ true → k < length cs → get_or (column_values at cs) k 0 < count_at cs k
below_at at [] k range low = absurd (omega arith)
below_at at (c ∷ cs) zero range low = ltb-true (at c.net.0) c.count (and_parts (nat_lt (at c.net.0) c.count) (in_range at cs) range).0
below_at at (c ∷ cs) (suc k) range low = below_at at cs k (and_parts (nat_lt (at c.net.0) c.count) (in_range at cs) range).1 (omega arith)

-- ---- a column of one value

-- rows that match alike wherever the nets have values of theirs
record AreAlike (cs : List Column) (a b : List ℕ) : Type 0 where
  same : (at : ℕ → ℕ) → in_range at cs ≡ true → row_matches a (column_values at cs) ≡ row_matches b (column_values at cs)

all_alike : (cs : List Column) (a b : List ℕ) → AreColumns cs → FitRow cs a → AreAlike cs a b → matches_all cs a ≡ true → matches_all cs b ≡ true
all_alike cs a b columns fit alike all =
    all_from_everywhere cs b columns (record { there = λ at range. sym (alike.same at range) ∙ matched_everywhere at cs a fit range all })

match_alike : (cs : List Column) (a b : List ℕ) → AreColumns cs → FitRow cs a → FitRow cs b → AreAlike cs a b → matches_all cs a ≡ matches_all cs b
match_alike cs a b columns fit_a fit_b alike =
    elim (cases_Bool (matches_all cs a)) [
      | inl all ↦ all ∙ sym (all_alike cs a b columns fit_a alike all)
      | inr some ↦
          some
          ∙ sym (false_from_ne_true _
          (λ all. false≢true (sym some ∙ all_alike cs b a columns fit_b (record { same = λ at range. sym (alike.same at range) }) all)))
    ]

bare_single : (cs : List Column) (sets : List ℕ) (k : ℕ) → AreColumns cs → FitRow cs sets → k < length cs → count_at cs k ≡ 1 → is_bare cs sets (Same k) ≡ matches_all cs sets
bare_single cs sets k columns fit low one_value =
    let p : ℕ → Bool = λ v. matches_all cs (narrowed sets k v) in
    let place : k < length sets = omega (arith, fit_length cs sets fit) in
    ap (λ n. list_any p (range_with_len 0 n)) one_value
    ∙ (or-false (p 0)
    ∙ match_alike cs (narrowed sets k 0) sets columns (fit_narrowed cs sets k 0 fit) fit
    (record {
      same = λ at range.
          let zero_there : get_or (column_values at cs) k 0 ≡ 0 = let b = below_at at cs k range low in omega arith in
          matched_alone sets (column_values at cs) k 0 place ∙ ap (λ b. b && row_matches sets (column_values at cs)) (eq-eqb _ 0 zero_there);
    }))

-- ---- a column of several values

-- a value other than v
abbrev other : ℕ → ℕ
other zero = 1
other (suc v) = 0

other_low : (v n : ℕ) → 1 < n → other v < n
other_low zero n more = more
other_low (suc v) n more = omega arith

other_apart : (v : ℕ) → nat_eq (other v) v ≡ false
other_apart zero = refl
other_apart (suc v) = ne_eqb 0 (suc v) (λ e. absurd (omega arith))

never_all : (cs : List Column) (sets : List ℕ) (k v : ℕ) → AreColumns cs → FitRow cs sets → k < length cs → 1 < count_at cs k → matches_all cs (narrowed sets k v) ≡ false
never_all cs sets k v columns fit low more =
    let place : k < length sets = omega (arith, fit_length cs sets fit) in
    let net = net_of cs k in
    let at : ℕ → ℕ = alone net (other v) in
    let values = column_values at cs in
    let below : other v < columns.count net = subst (λ n. other v < n) (counted_at columns.count cs k columns.counts low) (other_low v (count_at cs k) more) in
    let range : in_range at cs ≡ true = alone_ranges columns.count net (other v) below cs columns.each columns.counts in
    let apart : nat_eq (get_or values k 0) v ≡ false = ap (λ x. nat_eq x v) (value_at at cs k low ∙ alone-at net (other v)) ∙ other_apart v in
    let missed : row_matches (narrowed sets k v) values ≡ false = matched_alone sets values k v place ∙ ap (λ b. b && row_matches sets values) apart in
    false_from_ne_true _ (λ all. false≢true (sym missed ∙ matched_everywhere at cs (narrowed sets k v) (fit_narrowed cs sets k v fit) range all))

any_none : (p : ℕ → Bool) → ((v : ℕ) → p v ≡ false) → (vs : List ℕ) → list_any p vs ≡ false
any_none p none [] = refl
any_none p none (v ∷ vs) = ap (λ b. b || list_any p vs) (none v) ∙ any_none p none vs

pub bare-is : (cs : List Column) (sets : List ℕ) (e : Entry) → AreColumns cs → FitRow cs sets → FitEntry cs e → is_bare cs sets e ≡ (is_single cs e && matches_all cs sets)
bare-is cs sets (Set s) columns fit entry = refl
bare-is cs sets (Same k) columns fit entry =
    let low : k < length cs = entry in
    elim (cases_Bool (nat_eq (count_at cs k) 1)) [
      | inl one_value ↦ bare_single cs sets k columns fit low (eqb-true _ _ one_value) ∙ sym (ap (λ b. b && matches_all cs sets) one_value)
      | inr several ↦
          let some = some_at cs k columns.each low in
          let apart : count_at cs k ≡ 1 → ⊥ = λ e. false≢true (sym several ∙ eq-eqb (count_at cs k) 1 e) in
          let more : 1 < count_at cs k = omega arith in
          any_none (λ v. matches_all cs (narrowed sets k v)) (λ v. never_all cs sets k v columns fit low more) (range_with_len 0 (count_at cs k))
          ∙ sym (ap (λ b. b && matches_all cs sets) several)
    ]

-- what is told where the entry names a column of several values, and where it doesn't
pub bare_never : (cs : List Column) (sets : List ℕ) (e : Entry) → AreColumns cs → FitRow cs sets → FitEntry cs e → is_single cs e ≡ false → is_bare cs sets e ≡ false
bare_never cs sets e columns fit entry several = bare-is cs sets e columns fit entry ∙ ap (λ b. b && matches_all cs sets) several

pub bare_all : (cs : List Column) (sets : List ℕ) (e : Entry) → AreColumns cs → FitRow cs sets → FitEntry cs e → is_single cs e ≡ true → is_bare cs sets e ≡ matches_all cs sets
bare_all cs sets e columns fit entry single = bare-is cs sets e columns fit entry ∙ ap (λ b. b && matches_all cs sets) single
