-- Literals by ascending net: put in one after the other, or sorted.
use Rattle.std.proofs.Common.{◌≡◌, ◌∙◌, ℕ, suc, ◌+◌, ◌-◌, ◌<◌, ◌≤◌, Bool, true, false, ◌&&◌, cond, nat_eq, List, [], ◌∷◌, length, get_or, drop, length-drop, refl, sym, ap, inl, inr, ⊎_elim, arith}
use Rattle.std.specs.Prelude.{count_by, nat_lt}
use Rattle.std.specs.List.Sorted.{IsNonDecreasingBy}
use Rattle.std.proofs.lemmas.Bool.{false≢true, cases_Bool, cases_eq, cases_lt, eq-eqb, ne_eqb}
use Rattle.std.proofs.lemmas.List.{drop_more}
use Rattle.std.proofs.lemmas.List.Sums.{sum_by-cons}
use Rattle.std.proofs.lemmas.List.Sorted.{sum_by-IsPermutation}
use Rattle.mv_cover.specs.Literal.{Lit}
use Rattle.mv_cover.specs.Cubes.{nets_ascend}
use Rattle.mv_cover.specs.Equal.{lit_eq}
use Rattle.mv_cover.specs.Keys.{lit_eq-Decides}
use Rattle.mv_cover.specs.Sharp.{with_literal}
use Rattle.mv_cover.proofs.Meets.{Rises, Rises-cube, ascend-Rises, order}
use Rattle.mv_body.specs.Bodies.{by_net, AreApart, IsByNet}

-- ---- how many literals pass a test

-- one, if it passes
abbrev unit : Bool → ℕ
unit b = cond b 1 0

count-cons : (p : Lit → Bool) (l : Lit) (ls : List Lit) → count_by p (l ∷ ls) ≡ unit (p l) + count_by p ls
count-cons p l ls = sum_by-cons (λ x. cond (p x) 1 0) l ls

-- how many are on a net
abbrev many : ℕ → List Lit → ℕ
many n ls = count_by (λ (l : Lit). nat_eq l.net.0 n) ls

many-here : (l : Lit) (ls : List Lit) → many l.net.0 (l ∷ ls) ≡ 1 + many l.net.0 ls
many-here l ls =
    count-cons (λ (m : Lit). nat_eq m.net.0 l.net.0) l ls ∙ ap (λ b. unit b + many l.net.0 ls) (eq-eqb l.net.0 l.net.0 refl)

many-other : (n : ℕ) (l : Lit) (ls : List Lit) → (l.net.0 ≡ n → ⊥) → many n (l ∷ ls) ≡ many n ls
many-other n l ls ne =
    let e = count-cons (λ (m : Lit). nat_eq m.net.0 n) l ls ∙ ap (λ b. unit b + many n ls) (ne_eqb l.net.0 n ne) in
    omega (arith, e)

many-less : (n : ℕ) (l : Lit) (ls : List Lit) → many n ls ≤ many n (l ∷ ls)
many-less n l ls = let e = count-cons (λ (m : Lit). nat_eq m.net.0 n) l ls in omega (arith, e)

pub apart-tail : (l : Lit) (ls : List Lit) → AreApart (l ∷ ls) → AreApart ls
apart-tail l ls a = record { each = λ n. let less = many-less n l ls in let few = a.each n in omega (arith, less, few) }

pub apart-head : (l : Lit) (ls : List Lit) → AreApart (l ∷ ls) → many l.net.0 ls ≡ 0
apart-head l ls a = let here = many-here l ls in let few = a.each l.net.0 in omega (arith, here, few)

-- ---- a literal put in

Rises-with : (k : ℕ) (l : Lit) (c : List Lit) → k ≤ l.net.0 → Rises k c → Rises k (with_literal l c)
unfolding with_literal
Rises-with k l [] low r = (low, tt)
Rises-with k l (m ∷ ms) low r =
    elim (order l.net.0 m.net.0) [
      | inl y ↦ let less : l.net.0 < m.net.0 = y.1 in rw y.0 (low, (omega arith, r.1))
      | inr n ↦
          elim (order m.net.0 l.net.0) [
            | inl y ↦ let less : m.net.0 < l.net.0 = y.1 in rw n.0 (rw y.0 (r.0, Rises-with (m.net.0 + 1) l ms (omega arith) r.1))
            | inr o ↦
                let above : m.net.0 ≤ l.net.0 = n.1 in
                let below : l.net.0 ≤ m.net.0 = o.1 in
                let same : m.net.0 ≡ l.net.0 = omega arith in
                rw n.0 (rw o.0 (low, rw same at r.1))
          ]
    ]

pub Rises-by_net : (ls : List Lit) → Rises 0 (by_net ls)
Rises-by_net [] = tt
Rises-by_net (l ∷ ls) = Rises-with 0 l (by_net ls) (omega arith) (Rises-by_net ls)

count-with : (p : Lit → Bool) (l : Lit) (c : List Lit) → many l.net.0 c ≡ 0 → count_by p (with_literal l c) ≡ unit (p l) + count_by p c
unfolding with_literal
count-with p l [] none = count-cons p l []
count-with p l (m ∷ ms) none =
    elim (order l.net.0 m.net.0) [
      | inl y ↦ rw y.0 (count-cons p l (m ∷ ms))
      | inr n ↦
          elim (order m.net.0 l.net.0) [
            | inl y ↦
                let less = many-less l.net.0 m ms in
                let rest = count-with p l ms (omega (arith, less, none)) in
                let first = count-cons p m ms in
                let whole = count-cons p m (with_literal l ms) in
                rw n.0 (rw y.0 (omega (arith, rest, first, whole)))
            | inr o ↦
                let above : m.net.0 ≤ l.net.0 = n.1 in
                let below : l.net.0 ≤ m.net.0 = o.1 in
                let same : m.net.0 ≡ l.net.0 = omega arith in
                let here = count-cons (λ (x : Lit). nat_eq x.net.0 l.net.0) m ms ∙ ap (λ b. unit b + many l.net.0 ms) (eq-eqb m.net.0 l.net.0 same) in
                absurd (omega (arith, here, none))
          ]
    ]

pub count-by_net : (p : Lit → Bool) (ls : List Lit) → AreApart ls → count_by p (by_net ls) ≡ count_by p ls
count-by_net p [] a = refl
count-by_net p (l ∷ ls) a =
    let none = count-by_net (λ (m : Lit). nat_eq m.net.0 l.net.0) ls (apart-tail l ls a) ∙ apart-head l ls a in
    let with = count-with p l (by_net ls) none in
    let rest = count-by_net p ls (apart-tail l ls a) in
    let whole = count-cons p l ls in
    omega (arith, with, rest, whole)

-- ---- lists that ascend

many-below : (n k : ℕ) (c : List Lit) → Rises k c → n < k → many n c ≡ 0
many-below n k [] r low = refl
many-below n k (l ∷ ls) r low =
    let first : k ≤ l.net.0 = r.0 in
    many-other n l ls (λ e. absurd (omega arith)) ∙ many-below n (l.net.0 + 1) ls r.1 (omega arith)

many-once : (n k : ℕ) (c : List Lit) → Rises k c → many n c ≤ 1
many-once n k [] r = let e : many n [] ≡ 0 = refl in omega (arith, e)
many-once n k (l ∷ ls) r =
    ⊎_elim
    (λ (e : l.net.0 ≡ n).
    let here = count-cons (λ (m : Lit). nat_eq m.net.0 n) l ls ∙ ap (λ b. unit b + many n ls) (eq-eqb l.net.0 n e) in
    let none = many-below n (l.net.0 + 1) ls r.1 (omega arith) in
    omega (arith, here, none))
    (λ (ne : l.net.0 ≡ n → ⊥).
    let here = many-other n l ls ne in
    let rest = many-once n (l.net.0 + 1) ls r.1 in
    omega (arith, here, rest))
    (cases_eq l.net.0 n)

same_below : (l : Lit) (k : ℕ) (c : List Lit) → Rises k c → l.net.0 < k → count_by (lit_eq l) c ≡ 0
same_below l k [] r low = refl
same_below l k (m ∷ ms) r low =
    let first : k ≤ m.net.0 = r.0 in
    let other : lit_eq l m ≡ false = ap (λ b. b && nat_eq l.set m.set) (ne_eqb l.net.0 m.net.0 (λ e. absurd (omega arith))) in
    let here = count-cons (lit_eq l) m ms ∙ ap (λ b. unit b + count_by (lit_eq l) ms) other in
    let rest = same_below l (m.net.0 + 1) ms r.1 (omega arith) in
    omega (arith, here, rest)

-- a list has its first literal
has_first : (l : Lit) (ls : List Lit) → 1 ≤ count_by (lit_eq l) (l ∷ ls)
has_first l ls =
    let here = count-cons (lit_eq l) l ls ∙ ap (λ b. unit b + count_by (lit_eq l) ls) ((lit_eq-Decides l l).1 refl) in
    omega (arith, here)

-- a literal of a list that isn't the first of it is on a higher net
above_first : (l m : Lit) (ms : List Lit) → Rises (m.net.0 + 1) ms → 1 ≤ count_by (lit_eq l) (m ∷ ms) → lit_eq l m ≡ false → m.net.0 < l.net.0
above_first l m ms r some other =
    let here = count-cons (lit_eq l) m ms ∙ ap (λ b. unit b + count_by (lit_eq l) ms) other in
    ⊎_elim
    (λ (low : l.net.0 < m.net.0 + 1). let none = same_below l (m.net.0 + 1) ms r low in absurd (omega (arith, here, none, some)))
    (λ (high : m.net.0 + 1 ≤ l.net.0). omega arith)
    (cases_lt l.net.0 (m.net.0 + 1))

same_first : (l m : Lit) (ls ms : List Lit) → Rises (l.net.0 + 1) ls → Rises (m.net.0 + 1) ms → ((p : Lit → Bool) → count_by p (l ∷ ls) ≡ count_by p (m ∷ ms)) → l ≡ m
same_first l m ls ms r t same =
    ⊎_elim
    (λ (y : lit_eq l m ≡ true). (lit_eq-Decides l m).0 y)
    (λ (n : lit_eq l m ≡ false).
    ⊎_elim
    (λ (y : lit_eq m l ≡ true). sym ((lit_eq-Decides m l).0 y))
    (λ (o : lit_eq m l ≡ false).
    let first = has_first l ls in
    let second = has_first m ms in
    let one = same (lit_eq l) in
    let two = same (lit_eq m) in
    let high = above_first l m ms t (omega (arith, first, one)) n in
    let low = above_first m l ls r (omega (arith, second, two)) o in
    absurd (omega (arith, high, low)))
    (cases_Bool (lit_eq m l)))
    (cases_Bool (lit_eq l m))

-- two lists that ascend and have the same literals are one
unique : (j k : ℕ) (a b : List Lit) → Rises j a → Rises k b → ((p : Lit → Bool) → count_by p a ≡ count_by p b) → a ≡ b
unique j k [] [] r t same = refl
unique j k [] (m ∷ ms) r t same =
    let here = count-cons (λ _. true) m ms in
    let e : 0 ≡ count_by (λ (_ : Lit). true) (m ∷ ms) = same (λ _. true) in
    absurd (omega (arith, here, e))
unique j k (l ∷ ls) [] r t same =
    let here = count-cons (λ _. true) l ls in
    let e : count_by (λ (_ : Lit). true) (l ∷ ls) ≡ 0 = same (λ _. true) in
    absurd (omega (arith, here, e))
unique j k (l ∷ ls) (m ∷ ms) r t same =
    let first : l ≡ m = same_first l m ls ms r.1 t.1 same in
    let rest : ls ≡ ms = unique (l.net.0 + 1) (m.net.0 + 1) ls ms r.1 t.1 (λ p.
    let left = count-cons p l ls in
    let right = count-cons p m ms in
    let whole = same p in
    let one = ap (λ x. unit (p x)) first in
    omega (arith, left, right, whole, one)) in
    λ i. first i ∷ rest i

-- ---- sorted literals

many-moved : (p : Lit → Bool) (before after : List Lit) → IsByNet before after → count_by p after ≡ count_by p before
many-moved p before after s = sum_by-IsPermutation (λ x. cond (p x) 1 0) before after s.moved

apart-moved : (before after : List Lit) → IsByNet before after → AreApart before → AreApart after
apart-moved before after s a = record { each = λ n. let e = many-moved (λ (l : Lit). nat_eq l.net.0 n) before after s in let few = a.each n in omega (arith, e, few) }

-- sorted literals that ascend are those that were put in one after the other
pub apart-sorted : (before after : List Lit) → IsByNet before after → nets_ascend after ≡ true → AreApart before
apart-sorted before after s up = record {
  each = λ n.
      let e = many-moved (λ (l : Lit). nat_eq l.net.0 n) before after s in
      let few = many-once n 0 after (Rises-cube after up) in
      omega (arith, e, few);
}

pub by_net-sorted : (before after : List Lit) → IsByNet before after → nets_ascend after ≡ true → after ≡ by_net before
by_net-sorted before after s up =
    unique 0 0 after (by_net before) (Rises-cube after up) (Rises-by_net before)
    (λ p. many-moved p before after s ∙ sym (count-by_net p before (apart-sorted before after s up)))

next_above : (l : Lit) (ls : List Lit) → AreApart (l ∷ ls) → IsNonDecreasingBy (λ (x : Lit). x.net.0) (l ∷ ls) → (d : Lit) → 0 < length ls → l.net.0 + 1 ≤ (get_or ls 0 d).net.0
next_above l [] a up d some = absurd (omega arith)
next_above l (m ∷ ms) a up d some =
    let le : l.net.0 ≤ m.net.0 = up 0 1 d (omega arith) (omega arith) in
    ⊎_elim
    (λ (e : m.net.0 ≡ l.net.0).
    let here = count-cons (λ (x : Lit). nat_eq x.net.0 l.net.0) m ms ∙ ap (λ b. unit b + many l.net.0 ms) (eq-eqb m.net.0 l.net.0 e) in
    let none = apart-head l (m ∷ ms) a in
    absurd (omega (arith, here, none)))
    (λ (ne : m.net.0 ≡ l.net.0 → ⊥). omega (arith, le, ne))
    (cases_eq m.net.0 l.net.0)

rises_from : (k : ℕ) (ls : List Lit) → AreApart ls → IsNonDecreasingBy (λ (x : Lit). x.net.0) ls → ((d : Lit) → 0 < length ls → k ≤ (get_or ls 0 d).net.0) → Rises k ls
rises_from k [] a up low = tt
rises_from k (l ∷ ls) a up low = (
  low l (omega arith),
  rises_from (l.net.0 + 1) ls (apart-tail l ls a) (λ i j d e lt. up (suc i) (suc j) d (omega arith) (omega arith)) (next_above l ls a up),
)

-- literals of which no two are on one net ascend once they are sorted
pub sorted-ascend : (before after : List Lit) → IsByNet before after → AreApart before → nets_ascend after ≡ true
sorted-ascend before after s a =
    ascend-Rises 0 after (rises_from 0 after (apart-moved before after s a) s.up (λ d some. omega arith))

pub sorted-twice : (before after : List Lit) → IsByNet before after → nets_ascend after ≡ false → AreApart before → ⊥
sorted-twice before after s down a = false≢true (sym down ∙ sorted-ascend before after s a)

-- ---- the walk that tells whether nets ascend

pub ascend-step : (ls : List Lit) (k : ℕ) (x y : Lit) → k + 1 < length ls → x ≡ get_or ls k x → y ≡ get_or ls (k + 1) y → nets_ascend (drop k ls) ≡ (nat_lt x.net.0 y.net.0 && nets_ascend (drop (k + 1) ls))
ascend-step ls k x y low hx hy =
    let behind : drop (k + 1) ls ≡ y ∷ drop (k + 1 + 1) ls = drop_more ls (k + 1) y low ∙ ap (λ z. z ∷ drop (k + 1 + 1) ls) (sym hy) in
    let here : drop k ls ≡ x ∷ drop (k + 1) ls = drop_more ls k x (omega arith) ∙ ap (λ z. z ∷ drop (k + 1) ls) (sym hx) in
    ap nets_ascend here ∙ (ap (λ t. nets_ascend (x ∷ t)) behind ∙ ap (λ t. nat_lt x.net.0 y.net.0 && nets_ascend t) (sym behind))

ascend-short : (ls : List Lit) → length ls ≤ 1 → nets_ascend ls ≡ true
ascend-short [] low = refl
ascend-short (l ∷ []) low = refl
ascend-short (l ∷ m ∷ ms) low = absurd (omega arith)

pub ascend-end : (ls : List Lit) (k : ℕ) → length ls ≤ k → nets_ascend (drop (k - 1) ls) ≡ nets_ascend ls → true ≡ nets_ascend ls
ascend-end ls k past e = sym (ascend-short (drop (k - 1) ls) (omega (arith, length-drop (k - 1) ls))) ∙ e
