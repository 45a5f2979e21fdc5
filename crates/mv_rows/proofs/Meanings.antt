-- The lines of a row allow what the row holds.
use Rattle.std.proofs.Common.{◌≡◌, ℕ, zero, suc, ◌<◌, Bool, true, false, ◌&&◌, ◌||◌, nat_eq, List, [], ◌∷◌, length, get_or, refl, sym, ◌∙◌, ap, arith, inl, inr}
use Rattle.std.specs.Prelude.{nat_lt}
use Rattle.std.proofs.Math.Bool.{and-true, and-false, or-false, or-true}
use Rattle.std.proofs.lemmas.Cmp.{nat_eq_equiv}
use Rattle.std.proofs.lemmas.Bool.{cases_order, and_parts, lt-ltb, le-ltb, eq-eqb, ne_eqb}
use Rattle.mv_base.specs.Set.{has, one, meet}
use Rattle.mv_base.proofs.Sets.{has-one, has-meet}
use Rattle.mv_cover.specs.Covers.{some_gives, some_matches}
use Rattle.mv_cover.specs.declared.line.Line.{Line}
use Rattle.mv_cover.proofs.Points.{some_matches-append, some_gives-append}
use Rattle.mv_cover.proofs.Covering.{regroup, same_number}
use Rattle.mv_design.specs.declared.table.Entry.{Entry}
use Rattle.mv_design.specs.declared.table.Entry.TheVariants.{Set, Same}
use Rattle.mv_rows.specs.declared.column.Column.{Column}
use Rattle.mv_design.specs.Tables.{row_matches, entry_holds}
use Rattle.mv_rows.specs.Cubes.{column_values, in_range, FitRow}
use Rattle.mv_rows.specs.Lines.{OneLine, EachValue, EntryLines, FitEntry, narrowed, count_at}
use Rattle.mv_rows.proofs.Orders.{fit_length}

-- ---- the row with one value alone in a column

-- the column's set and its value come to the front
at_front : (a b r m : Bool) → m ≡ (a && b) → (m && r) ≡ ((a && r) && b)
at_front true true true m e = ap (λ x. x && true) e
at_front true true false m e = ap (λ x. x && false) e
at_front true false true m e = ap (λ x. x && true) e
at_front true false false m e = ap (λ x. x && false) e
at_front false b r m e = ap (λ x. x && r) e

pub matches-narrowed : (sets values : List ℕ) (k v : ℕ) → k < length sets → row_matches (narrowed sets k v) values ≡ (row_matches sets values && nat_eq (get_or values k 0) v)
matches-narrowed [] values k v low = absurd (omega arith)
matches-narrowed (s ∷ sets) [] zero v low = refl
matches-narrowed (s ∷ sets) [] (suc k) v low = refl
matches-narrowed (s ∷ sets) (x ∷ values) zero v low =
    at_front (has s x) (nat_eq x v) (row_matches sets values) (has (meet s (one v)) x) (has-meet s (one v) x ∙ ap (λ b. has s x && b) (has-one v x))
matches-narrowed (s ∷ sets) (x ∷ values) (suc k) v low = regroup (has s x) (row_matches sets values) (nat_eq (get_or values k 0) v) _ (matches-narrowed sets values k v (omega arith))

-- ---- one line

gives-one : (at : ℕ → ℕ) (v : ℕ) (cs : List Column) (sets : List ℕ) (out : ℕ) (ls : List Line) → OneLine cs sets out ls → in_range at cs ≡ true → some_gives at v ls ≡ (row_matches sets (column_values at cs) && has out v)
gives-one at v cs sets out [] none range = ap (λ b. b && has out v) (sym (none.nowhere at range))
gives-one at v cs sets out (l ∷ []) is range =
    or-false _ ∙ λ i. is.cube.points at range i && has (is.out_is i) v
gives-one at v cs sets out (l ∷ m ∷ ls) is range = absurd is

matches-one : (at : ℕ → ℕ) (cs : List Column) (sets : List ℕ) (out : ℕ) (ls : List Line) → OneLine cs sets out ls → in_range at cs ≡ true → some_matches at ls ≡ row_matches sets (column_values at cs)
matches-one at cs sets out [] none range = sym (none.nowhere at range)
matches-one at cs sets out (l ∷ []) is range = or-false _ ∙ is.cube.points at range
matches-one at cs sets out (l ∷ m ∷ ls) is range = absurd is

-- ---- a line for each value

below_none : (x : ℕ) → nat_lt x 0 ≡ false
below_none x = le-ltb x 0 (omega arith)

-- below v + 1 is below v, or v itself
below_next : (x v : ℕ) → nat_lt x (suc v) ≡ (nat_lt x v || nat_eq x v)
below_next x v =
    elim (cases_order x v) [
      | inl same ↦ lt-ltb x (suc v) (omega arith) ∙ sym (ap (λ b. nat_lt x v || b) (eq-eqb x v same) ∙ or-true _)
      | inr apart ↦
          elim apart [
            | inl low ↦ lt-ltb x (suc v) (omega arith) ∙ sym (ap (λ b. b || nat_eq x v) (lt-ltb x v low))
            | inr high ↦
                le-ltb x (suc v) (omega arith)
                ∙ sym (ap (λ b. b || nat_eq x v) (le-ltb x v (omega arith)) ∙ ne_eqb x v (λ e. absurd (omega arith)))
          ]
    ]

-- the value asked for is the column's, where the column has the value v
joined_gives : (r low here out want : Bool) → (here ≡ true → out ≡ want) → ((r && (low && want)) || ((r && here) && out)) ≡ (r && ((low || here) && want))
joined_gives false low here out want h = refl
joined_gives true true true out true h = refl
joined_gives true true true out false h = h refl
joined_gives true true false out true h = refl
joined_gives true true false out false h = refl
joined_gives true false true out want h = h refl
joined_gives true false false out want h = refl

joined_matches : (r low here : Bool) → ((r && low) || (r && here)) ≡ (r && (low || here))
joined_matches true low here = refl
joined_matches false low here = refl

nothing : (r w : Bool) (x : ℕ) → (r && (nat_lt x 0 && w)) ≡ false
nothing true w x = ap (λ b. b && w) (below_none x)
nothing false w x = refl

gives-values : (at : ℕ → ℕ) (out : ℕ) (cs : List Column) (sets : List ℕ) (k n : ℕ) (ls : List Line) → k < length sets → EachValue cs sets k n ls → in_range at cs ≡ true → some_gives at out ls ≡ (row_matches sets (column_values at cs) && (nat_lt (get_or (column_values at cs) k 0) n && nat_eq (get_or (column_values at cs) k 0) out))
gives-values at out cs sets k zero ls low are range = ap (some_gives at out) are ∙ sym (nothing (row_matches sets (column_values at cs)) (nat_eq (get_or (column_values at cs) k 0) out) (get_or (column_values at cs) k 0))
gives-values at out cs sets k (suc v) ls low are range =
    let x = get_or (column_values at cs) k 0 in
    let r = row_matches sets (column_values at cs) in
    let first = gives-values at out cs sets k v are.before low are.are_before range in
    let next : some_gives at out are.here ≡ ((r && nat_eq x v) && nat_eq out v) =
    gives-one at out cs (narrowed sets k v) (one v) are.here are.are_here range
    ∙ λ i. matches-narrowed sets (column_values at cs) k v low i && has-one v out i in
    let same : nat_eq x v ≡ true → nat_eq out v ≡ nat_eq x out = λ e. nat_eq_equiv.symm out v ∙ ap (λ (y : ℕ). nat_eq y out) (sym (same_number x v e)) in
    ap (some_gives at out) are.joined
    ∙ (some_gives-append at out are.before are.here
    ∙ ((λ i. first i || next i)
    ∙ (joined_gives r (nat_lt x v) (nat_eq x v) (nat_eq out v) (nat_eq x out) same
    ∙ ap (λ b. r && (b && nat_eq x out)) (sym (below_next x v)))))

matches-values : (at : ℕ → ℕ) (cs : List Column) (sets : List ℕ) (k n : ℕ) (ls : List Line) → k < length sets → EachValue cs sets k n ls → in_range at cs ≡ true → some_matches at ls ≡ (row_matches sets (column_values at cs) && nat_lt (get_or (column_values at cs) k 0) n)
matches-values at cs sets k zero ls low are range = ap (some_matches at) are ∙ sym (ap (λ b. row_matches sets (column_values at cs) && b) (below_none (get_or (column_values at cs) k 0)) ∙ and-false _)
matches-values at cs sets k (suc v) ls low are range =
    let x = get_or (column_values at cs) k 0 in
    let r = row_matches sets (column_values at cs) in
    let first = matches-values at cs sets k v are.before low are.are_before range in
    let next : some_matches at are.here ≡ (r && nat_eq x v) =
    matches-one at cs (narrowed sets k v) (one v) are.here are.are_here range ∙ matches-narrowed sets (column_values at cs) k v low in
    ap (some_matches at) are.joined
    ∙ (some_matches-append at are.before are.here
    ∙ ((λ i. first i || next i)
    ∙ (joined_matches r (nat_lt x v) (nat_eq x v) ∙ ap (λ b. r && b) (sym (below_next x v)))))

-- ---- the column's value is one of its net's

pub value_in : (at : ℕ → ℕ) (cs : List Column) (k : ℕ) → k < length cs → in_range at cs ≡ true → nat_lt (get_or (column_values at cs) k 0) (count_at cs k) ≡ true
value_in at [] k low range = absurd (omega arith)
value_in at (c ∷ cs) zero low range = (and_parts _ (in_range at cs) range).0
value_in at (c ∷ cs) (suc k) low range = value_in at cs k (omega arith) (and_parts (nat_lt (at c.net.0) c.count) (in_range at cs) range).1

pub values_length : (at : ℕ → ℕ) (cs : List Column) → length (column_values at cs) ≡ length cs
values_length at [] = refl
values_length at (c ∷ cs) = let e = values_length at cs in omega (arith, e)

-- ---- the lines of a row

pub gives-entry : (at : ℕ → ℕ) (out : ℕ) (cs : List Column) (sets : List ℕ) (e : Entry) (ls : List Line) → FitRow cs sets → FitEntry cs e → EntryLines cs sets e ls → in_range at cs ≡ true → some_gives at out ls ≡ (row_matches sets (column_values at cs) && entry_holds (column_values at cs) e out)
gives-entry at out cs sets (Set s) ls fit entry are range = gives-one at out cs sets s ls are range
gives-entry at out cs sets (Same k) ls fit entry are range =
    let x = get_or (column_values at cs) k 0 in
    let place : k < length cs = entry in
    let low : k < length sets = omega (arith, fit_length cs sets fit) in
    gives-values at out cs sets k (count_at cs k) ls low are range
    ∙ (ap (λ b. row_matches sets (column_values at cs) && (b && nat_eq x out)) (value_in at cs k place range)
    ∙ sym (ap (λ b. row_matches sets (column_values at cs) && (b && nat_eq x out)) (lt-ltb k (length (column_values at cs)) (omega (arith, values_length at cs)))))

pub matches-entry : (at : ℕ → ℕ) (cs : List Column) (sets : List ℕ) (e : Entry) (ls : List Line) → FitRow cs sets → FitEntry cs e → EntryLines cs sets e ls → in_range at cs ≡ true → some_matches at ls ≡ row_matches sets (column_values at cs)
matches-entry at cs sets (Set s) ls fit entry are range = matches-one at cs sets s ls are range
matches-entry at cs sets (Same k) ls fit entry are range =
    let place : k < length cs = entry in
    let low : k < length sets = omega (arith, fit_length cs sets fit) in
    matches-values at cs sets k (count_at cs k) ls low are range
    ∙ (ap (λ b. row_matches sets (column_values at cs) && b) (value_in at cs k place range) ∙ and-true _)
