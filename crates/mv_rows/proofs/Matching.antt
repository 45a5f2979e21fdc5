-- Where a row matches, told from the values that it leaves each net.
use Rattle.std.proofs.Common.{◌≡◌, ℕ, ◌<◌, Bool, true, false, ◌&&◌, nat_eq, cond, List, [], ◌∷◌, refl, sym, ◌∙◌, ap, subst, inl, inr, All}
use Rattle.std.specs.Prelude.{nat_lt}
use Rattle.std.specs.List.{list_all, list_any}
use Rattle.std.proofs.Math.Bool.{and-true, and_assoc}
use Rattle.std.proofs.lemmas.Bool.{cases_Bool, cond_both, cond-true, false≢true, and_parts, and_from, or_cases, or_parts, eq-eqb, lt-ltb, ltb-true, false_from_ne_true}
use Rattle.std.proofs.lemmas.List.Elements.{All-head, All-tail}
use Rattle.mv_base.specs.Set.{has, empty, full, meet}
use Rattle.mv_base.proofs.Sets.{has-empty, has-full, has-meet, same_set}
use Rattle.mv_base.proofs.Lists.{all-weaker}
use Rattle.mv_cover.proofs.Covering.{same_number}
use Rattle.mv_cover.proofs.Members.{member_of}
use Rattle.mv_design.specs.Tables.{row_matches}
use Rattle.mv_rows.specs.declared.column.Column.{Column}
use Rattle.mv_rows.specs.Cubes.{column_values, in_range, CountBy, IsColumn, AreColumns, FitRow, HasPoint}
use Rattle.mv_rows.specs.Marked.{values_left, leaves_all, leaves_none, matches_all, matches_none}

-- ---- a value that a row leaves a net

-- the row leaves net n the value v: it lies in the set of each column of the net
abbrev leaves : List Column → List ℕ → ℕ → ℕ → Bool
leaves [] sets n v = true
leaves (c ∷ cs) [] n v = true
leaves (c ∷ cs) (s ∷ sets) n v = cond (nat_eq c.net.0 n) (has s v) true && leaves cs sets n v

-- the row leaves the column's net the value that it has
abbrev leaves_at : (ℕ → ℕ) → List Column → List ℕ → Column → Bool
leaves_at at cs sets c = leaves cs sets c.net.0 (at c.net.0)

-- the column's net has as many values as the column says
abbrev IsCounted : (ℕ → ℕ) → Column → Type 0
IsCounted count c = c.count ≡ count c.net.0

narrows : (own : Bool) (values s v : ℕ) (rest : Bool) → (has (cond own (meet values s) values) v && rest) ≡ (has values v && (cond own (has s v) true && rest))
narrows true values s v rest = ap (λ b. b && rest) (has-meet values s v) ∙ and_assoc (has values v) (has s v) rest
narrows false values s v rest = refl

has-left : (cs : List Column) (sets : List ℕ) (n values v : ℕ) → has (values_left cs sets n values) v ≡ (has values v && leaves cs sets n v)
has-left [] sets n values v = sym (and-true (has values v))
has-left (c ∷ cs) [] n values v = sym (and-true (has values v))
has-left (c ∷ cs) (s ∷ sets) n values v =
    has-left cs sets n (cond (nat_eq c.net.0 n) (meet values s) values) v ∙ narrows (nat_eq c.net.0 n) values s v (leaves cs sets n v)

-- where all values are left, each of them is
left_of_all : (cs : List Column) (sets : List ℕ) (n values v : ℕ) → values_left cs sets n values ≡ values → has values v ≡ true → leaves cs sets n v ≡ true
left_of_all cs sets n values v e h = (and_parts (has values v) (leaves cs sets n v) (sym (has-left cs sets n values v) ∙ (ap (λ s. has s v) e ∙ h))).1

-- ---- a row matches where it leaves each net its value

left_where_matched : (at : ℕ → ℕ) (cs : List Column) (sets : List ℕ) (n : ℕ) → row_matches sets (column_values at cs) ≡ true → leaves cs sets n (at n) ≡ true
left_where_matched at [] sets n h = refl
left_where_matched at (c ∷ cs) [] n h = refl
left_where_matched at (c ∷ cs) (s ∷ sets) n h =
    let p = and_parts (has s (at c.net.0)) (row_matches sets (column_values at cs)) h in
    and_from (cond (nat_eq c.net.0 n) (has s (at n)) true) (leaves cs sets n (at n))
    (cond_both (nat_eq c.net.0 n) (has s (at n)) true (λ b. b ≡ true) (λ e. ap (λ (m : ℕ). has s (at m)) (sym (same_number c.net.0 n e)) ∙ p.0) (λ _. refl))
    (left_where_matched at cs sets n p.1)

matched_where_left : (at : ℕ → ℕ) (cs : List Column) (sets : List ℕ) → FitRow cs sets → list_all (leaves_at at cs sets) cs ≡ true → row_matches sets (column_values at cs) ≡ true
matched_where_left at [] [] fit h = refl
matched_where_left at [] (s ∷ sets) fit h = absurd fit
matched_where_left at (c ∷ cs) [] fit h = absurd fit
matched_where_left at (c ∷ cs) (s ∷ sets) fit h =
    let whole : Column → Bool = leaves_at at (c ∷ cs) (s ∷ sets) in
    let p = and_parts (whole c) (list_all whole cs) h in
    let own = and_parts (cond (nat_eq c.net.0 c.net.0) (has s (at c.net.0)) true) (leaves cs sets c.net.0 (at c.net.0)) p.0 in
    and_from (has s (at c.net.0)) (row_matches sets (column_values at cs))
    (sym (cond-true (nat_eq c.net.0 c.net.0) (has s (at c.net.0)) true (eq-eqb c.net.0 c.net.0 refl)) ∙ own.0)
    (matched_where_left at cs sets fit.1
    (all-weaker whole (leaves_at at cs sets) (λ d e. (and_parts (cond (nat_eq c.net.0 d.net.0) (has s (at d.net.0)) true) (leaves cs sets d.net.0 (at d.net.0)) e).1) cs p.1))

-- ---- a row that matches everything

pub matched_everywhere : (at : ℕ → ℕ) (cs : List Column) (sets : List ℕ) → FitRow cs sets → in_range at cs ≡ true → matches_all cs sets ≡ true → row_matches sets (column_values at cs) ≡ true
matched_everywhere at cs sets fit range h = matched_where_left at cs sets fit (each cs range h)
  where
    each : (ds : List Column) → in_range at ds ≡ true → list_all (leaves_all cs sets) ds ≡ true → list_all (leaves_at at cs sets) ds ≡ true
    each [] range h = refl
    each (d ∷ ds) range h =
        let p = and_parts (nat_lt (at d.net.0) d.count) (in_range at ds) range in
        let q = and_parts (leaves_all cs sets d) (list_all (leaves_all cs sets) ds) h in
        and_from (leaves cs sets d.net.0 (at d.net.0)) (list_all (leaves_at at cs sets) ds)
        (left_of_all cs sets d.net.0 (full d.count) (at d.net.0) (same_number _ _ q.0) (has-full d.count (at d.net.0) ∙ p.0))
        (each ds p.1 q.1)

-- the value v at net n, and 0 elsewhere
abbrev pub alone : ℕ → ℕ → ℕ → ℕ
alone n v m = cond (nat_eq m n) v 0

pub alone-at : (n v : ℕ) → alone n v n ≡ v
alone-at n v = cond-true (nat_eq n n) v 0 (eq-eqb n n refl)

pub alone_ranges : (count : ℕ → ℕ) (n v : ℕ) → v < count n → (cs : List Column) → All IsColumn cs → CountBy count cs → in_range (alone n v) cs ≡ true
alone_ranges count n v low [] each by = refl
alone_ranges count n v low (c ∷ cs) each by =
    let counted : IsCounted count c = All-head (IsCounted count) c cs by in
    let some : 0 < c.count = (All-head IsColumn c cs each).some in
    and_from (nat_lt (alone n v c.net.0) c.count) (in_range (alone n v) cs)
    (cond_both (nat_eq c.net.0 n) v 0 (λ x. nat_lt x c.count ≡ true)
    (λ e. lt-ltb v c.count (subst (λ k. v < k) (sym (counted ∙ ap count (same_number c.net.0 n e))) low))
    (λ _. lt-ltb 0 c.count some))
    (alone_ranges count n v low cs (All-tail IsColumn c cs each) (All-tail (IsCounted count) c cs by))

-- a row that matches wherever the nets have values of theirs
pub record IsEverywhere (cs : List Column) (sets : List ℕ) : Type 0 where
  pub there : (at : ℕ → ℕ) → in_range at cs ≡ true → row_matches sets (column_values at cs) ≡ true

all_left : (cs : List Column) (sets : List ℕ) (columns : AreColumns cs) → IsEverywhere cs sets → (c : Column) → IsCounted columns.count c → values_left cs sets c.net.0 (full c.count) ≡ full c.count
all_left cs sets columns everywhere c counted =
    same_set _ _
    (λ v.
    has-left cs sets c.net.0 (full c.count) v
    ∙ elim (cases_Bool (has (full c.count) v)) [
      | inl own ↦
          let low : v < c.count = ltb-true v c.count (sym (has-full c.count v) ∙ own) in
          let range = alone_ranges columns.count c.net.0 v (subst (λ k. v < k) counted low) cs columns.each columns.counts in
          let left : leaves cs sets c.net.0 v ≡ true =
          ap (leaves cs sets c.net.0) (sym (alone-at c.net.0 v)) ∙ left_where_matched (alone c.net.0 v) cs sets c.net.0 (everywhere.there (alone c.net.0 v) range) in
          ap (λ b. has (full c.count) v && b) left ∙ and-true _
      | inr none ↦ ap (λ b. b && leaves cs sets c.net.0 v) none ∙ sym none
    ])

pub all_from_everywhere : (cs : List Column) (sets : List ℕ) → AreColumns cs → IsEverywhere cs sets → matches_all cs sets ≡ true
all_from_everywhere cs sets columns everywhere = each cs columns.counts
  where
    each : (ds : List Column) → CountBy columns.count ds → list_all (leaves_all cs sets) ds ≡ true
    each [] by = refl
    each (d ∷ ds) by =
        let here : IsCounted columns.count d = All-head (IsCounted columns.count) d ds by in
        and_from _ _ (eq-eqb _ _ (all_left cs sets columns everywhere d here)) (each ds (All-tail (IsCounted columns.count) d ds by))

-- ---- a row that matches nothing

none_there : (at : ℕ → ℕ) (cs : List Column) (sets : List ℕ) → row_matches sets (column_values at cs) ≡ true → (ds : List Column) → in_range at ds ≡ true → list_any (leaves_none cs sets) ds ≡ true → ⊥
none_there at cs sets there [] range h = false≢true h
none_there at cs sets there (d ∷ ds) range h =
    let p = and_parts (nat_lt (at d.net.0) d.count) (in_range at ds) range in
    elim (or_cases (leaves_none cs sets d) (list_any (leaves_none cs sets) ds) h) [
      | inl e ↦
          let left : has (values_left cs sets d.net.0 (full d.count)) (at d.net.0) ≡ true =
          has-left cs sets d.net.0 (full d.count) (at d.net.0)
          ∙ and_from _ _ (has-full d.count (at d.net.0) ∙ p.0) (left_where_matched at cs sets d.net.0 there) in
          false≢true (sym (ap (λ s. has s (at d.net.0)) (same_number _ _ e) ∙ has-empty (at d.net.0)) ∙ left)
      | inr rest ↦ none_there at cs sets there ds p.1 rest
    ]

pub matched_nowhere : (at : ℕ → ℕ) (cs : List Column) (sets : List ℕ) → in_range at cs ≡ true → matches_none cs sets ≡ true → row_matches sets (column_values at cs) ≡ false
matched_nowhere at cs sets range none = false_from_ne_true _ (λ there. none_there at cs sets there cs range none)

-- a member, if there is one
record Member (s : ℕ) : Type 0 where
  value : ℕ
  is : nat_eq s empty ≡ false → has s value ≡ true

member : (s : ℕ) → Member s
member s =
    elim (cases_Bool (nat_eq s empty)) [
      | inl none ↦ record { value = 0; is = λ some. absurd (false≢true (sym some ∙ none)) }
      | inr some ↦ let m = member_of s some in record { value = m.0; is = λ _. m.1 }
    ]

-- for each net a value that the row leaves it, if there is one
abbrev left_at : (ℕ → ℕ) → List Column → List ℕ → ℕ → ℕ
left_at count cs sets n = (member (values_left cs sets n (full (count n)))).value

left_member : (count : ℕ → ℕ) (cs : List Column) (sets : List ℕ) (c : Column) → IsCounted count c → leaves_none cs sets c ≡ false → (has (full c.count) (left_at count cs sets c.net.0) && leaves cs sets c.net.0 (left_at count cs sets c.net.0)) ≡ true
left_member count cs sets c counted some =
    let e : values_left cs sets c.net.0 (full c.count) ≡ values_left cs sets c.net.0 (full (count c.net.0)) = ap (λ k. values_left cs sets c.net.0 (full k)) counted in
    sym (has-left cs sets c.net.0 (full c.count) (left_at count cs sets c.net.0))
    ∙ (ap (λ s. has s (left_at count cs sets c.net.0)) e ∙ (member (values_left cs sets c.net.0 (full (count c.net.0)))).is (ap (λ s. nat_eq s empty) (sym e) ∙ some))

pub point_of_some : (cs : List Column) (sets : List ℕ) → AreColumns cs → FitRow cs sets → matches_none cs sets ≡ false → HasPoint cs sets
point_of_some cs sets columns fit some = record {
  at = left_at columns.count cs sets;
  range = (each cs columns.counts some).0;
  there = matched_where_left (left_at columns.count cs sets) cs sets fit (each cs columns.counts some).1;
}
  where
    each : (ds : List Column) → CountBy columns.count ds → list_any (leaves_none cs sets) ds ≡ false → (in_range (left_at columns.count cs sets) ds ≡ true) × (list_all (leaves_at (left_at columns.count cs sets) cs sets) ds ≡ true)
    each [] by h = (refl, refl)
    each (d ∷ ds) by h =
        let p = or_parts (leaves_none cs sets d) (list_any (leaves_none cs sets) ds) h in
        let value = left_at columns.count cs sets d.net.0 in
        let here = and_parts (has (full d.count) value) (leaves cs sets d.net.0 value) (left_member columns.count cs sets d (All-head (IsCounted columns.count) d ds by) p.0) in
        let rest = each ds (All-tail (IsCounted columns.count) d ds by) p.1 in
        (and_from _ _ (sym (has-full d.count value) ∙ here.0) rest.0, and_from _ _ here.1 rest.1)
