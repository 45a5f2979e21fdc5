-- The members of a set by ascending number: its least, and then those that are left without it.
use Rattle.std.proofs.Common.{◌≡◌, ◌∙◌, ℕ, zero, suc, ◌+◌, ◌<◌, ◌≤◌, true, false, not, ◌&&◌, cond, IsTrue, List, [], ◌∷◌, length, map, filter, refl, sym, ap, subst, ⊎_elim, arith}
use Rattle.std.specs.Prelude.{count_ones}
use Rattle.std.specs.List.{range_with_len}
use Rattle.std.proofs.Math.Bool.{and-true}
use Rattle.std.proofs.lemmas.Bool.{cases_eq, ne_eqb, false_from_ne_true, and_parts, ltb-true}
use Rattle.mv_base.specs.Set.{has, empty, one, full, minus, Within}
use Rattle.mv_base.proofs.Sets.{has-empty, has-one, has-full, has-minus, taken_out, count-more, join-minus, IsLeast}
use Rattle.mv_text.specs.Text.{value_at, names_in_set}

-- ---- a set without one of its members

-- the others stay
others_stay : (s v u : ℕ) → (u ≡ v → ⊥) → has (minus s (one v)) u ≡ has s u
others_stay s v u ne =
    has-minus s (one v) u ∙ (ap (λ b. has s u && not b) (has-one v u ∙ ne_eqb u v ne) ∙ and-true (has s u))

pub fewer-left : (s v : ℕ) → IsTrue (has s v) → count_ones (minus s (one v)) < count_ones s
fewer-left s v member =
    let more = count-more (minus s (one v)) v (taken_out s v) in
    let whole = ap count_ones (join-minus s v member) in
    omega (arith, more, whole)

pub left-within : (s v count : ℕ) → Within s (full count) → Within (minus s (one v)) (full count)
left-within s v count within u h =
    within u (and_parts (has s u) (not (has (one v) u)) (sym (has-minus s (one v) u) ∙ h)).0

pub member-below : (s v count : ℕ) → Within s (full count) → IsTrue (has s v) → v < count
member-below s v count within member = ltb-true v count (sym (has-full count v) ∙ within v member)

-- ---- members by ascending number

-- the members among n numbers from a on
abbrev members_in : ℕ → ℕ → ℕ → List ℕ
members_in s a n = filter (λ u. has s u) (range_with_len a n)

same_above : (s v a n : ℕ) → v < a → members_in s a n ≡ members_in (minus s (one v)) a n
same_above s v a zero low = refl
same_above s v a (suc n) low =
    let here : has s a ≡ has (minus s (one v)) a = sym (others_stay s v a (λ h. absurd (omega arith))) in
    let rest = same_above s v (a + 1) n (omega arith) in
    λ i. cond (here i) (a ∷ rest i) (rest i)

least_first : (s v a n : ℕ) → IsLeast s v → a ≤ v → v < a + n → members_in s a n ≡ v ∷ members_in (minus s (one v)) a n
least_first s v a zero l high low = absurd (omega arith)
least_first s v a (suc n) l high low =
    ⊎_elim
    (λ (e : a ≡ v).
    let here : has s a ≡ true = subst (λ u. has s u ≡ true) (sym e) l.member in
    let gone : has (minus s (one v)) a ≡ false = subst (λ u. has (minus s (one v)) u ≡ false) (sym e) (taken_out s v) in
    let rest = same_above s v (a + 1) n (omega arith) in
    rw here (rw gone (λ i. e i ∷ rest i)))
    (λ (ne : a ≡ v → ⊥).
    let none : has s a ≡ false = false_from_ne_true (has s a) (λ h. let far = l.least a h in ne (omega arith)) in
    rw none (rw (others_stay s v a ne ∙ none) (least_first s v (a + 1) n l (omega (arith, ne)) (omega arith))))
    (cases_eq a v)

none_in : (a n : ℕ) → members_in empty a n ≡ []
none_in a zero = refl
none_in a (suc n) = rw (has-empty a) (none_in (a + 1) n)

-- ---- their names

pub names-least : (values : List (List ℕ)) (set v : ℕ) → IsLeast set v → v < length values → names_in_set values set ≡ value_at values v ∷ names_in_set values (minus set (one v))
names-least values set v l low = ap (map (value_at values)) (least_first set v 0 (length values) l (omega arith) (omega arith))

pub names-empty : (values : List (List ℕ)) → names_in_set values empty ≡ []
names-empty values = ap (map (value_at values)) (none_in 0 (length values))
