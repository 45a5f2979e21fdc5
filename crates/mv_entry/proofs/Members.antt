-- The values of a set by ascending number: its least, and then those that are left without it.
use Rattle.std.proofs.Common.{◌≡◌, ◌∙◌, ℕ, zero, suc, ◌+◌, ◌<◌, ◌≤◌, true, false, not, ◌&&◌, cond, IsTrue, List, [], ◌∷◌, ◌++◌, filter, codes, decimal, refl, sym, ap, subst, ⊎_elim, append_assoc, arith}
use Rattle.std.specs.Prelude.{count_ones}
use Rattle.std.specs.List.{flat_map, range_with_len}
use Rattle.std.proofs.Math.Bool.{and-true}
use Rattle.std.proofs.lemmas.Bool.{cases_eq, ne_eqb, false_from_ne_true, and_parts}
use Rattle.mv_base.specs.Set.{has, empty, one, minus, IsSet}
use Rattle.mv_base.specs.declared.limits.TheConstants.{MAX_VALUES}
use Rattle.mv_base.proofs.Sets.{has-empty, has-one, has-minus, taken_out, count-more, join-minus, IsLeast, least_of}
use Rattle.mv_entry.specs.Entries.{members_below, members, with_comma, values_word, set_word}

-- ---- a set without one of its members

-- the others stay
others_stay : (s v u : ℕ) → (u ≡ v → ⊥) → has (minus s (one v)) u ≡ has s u
others_stay s v u ne =
    has-minus s (one v) u ∙ (ap (λ b. has s u && not b) (has-one v u ∙ ne_eqb u v ne) ∙ and-true (has s u))

pub fewer-left : (s v : ℕ) → IsTrue (has s v) → count_ones (minus s (one v)) < count_ones s
fewer-left s v member =
    let more = count-more (minus s (one v)) v (taken_out s v) in
    let whole = ap count_ones (join-minus s v member) in
    omega (arith, more, whole)

IsSet-minus : (s t : ℕ) → IsSet s → IsSet (minus s t)
IsSet-minus s t small = record {
  below = λ u h. small.below u (and_parts (has s u) (not (has t u)) (sym (has-minus s t u) ∙ h)).0;
}

-- ---- members by ascending number

-- the members among n numbers from a on
abbrev members_in : ℕ → ℕ → ℕ → List ℕ
members_in s a n = filter (λ u. has s u) (range_with_len a n)

same_above : (s v a n : ℕ) → v < a → members_in s a n ≡ members_in (minus s (one v)) a n
same_above s v a zero low = refl
same_above s v a (suc n) low =
    let here : has s a ≡ has (minus s (one v)) a = sym (others_stay s v a (λ h. absurd (omega arith))) in
    let rest = same_above s v (a + 1) n (omega arith) in
    λ i. cond (here i) (a ∷ rest i) (rest i)

least_first : (s v a n : ℕ) → IsLeast s v → a ≤ v → v < a + n → members_in s a n ≡ v ∷ members_in (minus s (one v)) a n
least_first s v a zero l high low = absurd (omega arith)
least_first s v a (suc n) l high low =
    ⊎_elim
    (λ (e : a ≡ v).
    let here : has s a ≡ true = subst (λ u. has s u ≡ true) (sym e) l.member in
    let gone : has (minus s (one v)) a ≡ false = subst (λ u. has (minus s (one v)) u ≡ false) (sym e) (taken_out s v) in
    let rest = same_above s v (a + 1) n (omega arith) in
    rw here (rw gone (λ i. e i ∷ rest i)))
    (λ (ne : a ≡ v → ⊥).
    let none : has s a ≡ false = false_from_ne_true (has s a) (λ h. let far = l.least a h in ne (omega arith)) in
    rw none (rw (others_stay s v a ne ∙ none) (least_first s v (a + 1) n l (omega (arith, ne)) (omega arith))))
    (cases_eq a v)

none_in : (a n : ℕ) → members_in empty a n ≡ []
none_in a zero = refl
none_in a (suc n) = rw (has-empty a) (none_in (a + 1) n)

members-least : (set v n : ℕ) → IsLeast set v → v < n → members_below set n ≡ v ∷ members_below (minus set (one v)) n
unfolding members_below
members-least set v n l low = least_first set v 0 n l (omega arith) (omega arith)

members-empty : (n : ℕ) → members_below empty n ≡ []
unfolding members_below
members-empty n = none_in 0 n

-- ---- their text

-- a set, its least value, and the set of the others
pub record IsParted (set v others : ℕ) : Type 0 where
  pub small : IsSet set
  pub least : IsLeast set v
  pub rest : others ≡ minus set (one v)

pub parted : (set v others : ℕ) → IsSet set → IsTrue (has set v) → ((u : ℕ) → IsTrue (has set u) → v ≤ u) → others ≡ minus set (one v) → IsParted set v others
parted set v others small member least rest = record {
  small = small;
  least = record { member = member; least = least };
  rest = rest;
}

members-parted : (set v others : ℕ) → IsParted set v others → members set ≡ v ∷ members others
members-parted set v others p =
    members-least set v MAX_VALUES p.least (p.small.below v p.least.member) ∙ ap (λ s. v ∷ members s) (sym p.rest)

pub values-more : (set v others : ℕ) → IsParted set v others → flat_map with_comma (members set) ≡ codes "," ++ (decimal v ++ flat_map with_comma (members others))
values-more set v others p = ap (flat_map with_comma) (members-parted set v others p)

pub values-none : (set : ℕ) → set ≡ empty → flat_map with_comma (members set) ≡ []
values-none set e = ap (λ s. flat_map with_comma (members s)) e ∙ ap (flat_map with_comma) (members-empty MAX_VALUES)

pub word-none : (set : ℕ) → set ≡ empty → set_word set ≡ codes "()"
unfolding set_word
word-none set e = ap (λ s. values_word (members s)) e ∙ ap values_word (members-empty MAX_VALUES)

pub word-one : (set v others : ℕ) → IsParted set v others → others ≡ empty → set_word set ≡ decimal v
unfolding set_word
word-one set v others p e =
    ap values_word (members-parted set v others p ∙ ap (λ ms. v ∷ ms) (ap members e ∙ members-empty MAX_VALUES))

several : (v : ℕ) (ms : List ℕ) (w : ℕ) (ws : List ℕ) → ms ≡ w ∷ ws → values_word (v ∷ ms) ≡ codes "(" ++ (decimal v ++ (flat_map with_comma ms ++ codes ")"))
several v ms w ws e =
    ap (λ l. values_word (v ∷ l)) e
    ∙ (ap (λ t. 40 ∷ t) (append_assoc (decimal v) (flat_map with_comma (w ∷ ws)) (41 ∷ []))
    ∙ ap (λ l. codes "(" ++ (decimal v ++ (flat_map with_comma l ++ codes ")"))) (sym e))

pub word-more : (set v others : ℕ) → IsParted set v others → (others ≡ empty → ⊥) → set_word set ≡ codes "(" ++ (decimal v ++ (flat_map with_comma (members others) ++ codes ")"))
unfolding set_word
word-more set v others p some =
    let small : IsSet others = subst IsSet (sym p.rest) (IsSet-minus set (one v) p.small) in
    let next = least_of others small some in
    let listed = members-least others next.0 MAX_VALUES next.1 (small.below next.0 next.1.member) in
    ap values_word (members-parted set v others p) ∙ several v (members others) next.0 (members (minus others (one next.0))) listed
