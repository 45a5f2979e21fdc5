-- Sums over lists: of the same members, over two parts, and over pairs in either order.
use Rattle.std.proofs.Common.{◌≡◌, ◌∙◌, ℕ, ◌+◌, Bool, true, false, not, cond, List, [], ◌∷◌, filter, Contains, inl, inr, refl, sym, ap, arith, Decides}
use Rattle.std.proofs.lemmas.Bool.{cases_Bool, false≢true, cond-true, cond-false, false_from_ne_true}
use Rattle.std.proofs.lemmas.List.Elements.{All-contains, All-from_recursion}
use Rattle.std.proofs.lemmas.List.Sums.{sum_by-cons}
use Rattle.std.proofs.lemmas.List.Sorted.{IsPermutation-refl, IsPermutation-sym, IsPermutation-cons, IsPermutation-trans, IsPermutation-remove, Contains-permutation}
use Rattle.std.proofs.lemmas.Map.Keys.{IsDistinct-head, IsDistinct-tail, IsDistinct-IsPermutation}
use Rattle.std.specs.List.{sum_by, IsDistinct, remove}
use Rattle.std.specs.List.Sorted.{IsPermutation}
use Rattle.mv_kernels.proofs.Lists.{Contains-none, Contains-first, Contains-behind, Contains-cons_cases}

module _ {X : Type 0} (e : X → X → Bool) (same : (a b : X) → Decides (e a b) (a ≡ b)) where
  flips : (x y : X) → e x y ≡ e y x
  flips x y =
      elim (cases_Bool (e x y)) [
        | inl t ↦ t ∙ sym ((same y x).1 (sym ((same x y).0 t)))
        | inr f ↦ f ∙ sym (false_from_ne_true (e y x) (λ t. false≢true (sym f ∙ (same x y).1 (sym ((same y x).0 t)))))
      ]

  -- the first of a list of which no two are equal isn't behind it
  pub first_once : (x z : X) (xs : List X) → IsDistinct e (x ∷ xs) → Contains xs z → x ≡ z → ⊥
  first_once x z xs d i q =
      false≢true (sym (All-contains (λ y. e x y ≡ false) xs z (All-from_recursion (λ y. e x y ≡ false) xs (IsDistinct-head e x xs d)) i) ∙ (same x z).1 q)

  -- lists of the same members, each once, are the same in another order
  pub same_members : (xs ys : List X) → IsDistinct e xs → IsDistinct e ys → ((x : X) → Contains xs x → Contains ys x) → ((x : X) → Contains ys x → Contains xs x) → IsPermutation xs ys
  same_members [] [] p q f g = IsPermutation-refl []
  same_members [] (y ∷ ys) p q f g = absurd (Contains-none y (g y (Contains-first y ys)))
  same_members (x ∷ xs) ys p q f g =
      let c = f x (Contains-first x xs) in
      let left = remove ys c.0 in
      let out : IsPermutation ys (x ∷ left) = IsPermutation-remove ys c.0 x c.1 (sym c.2) in
      let apart : IsDistinct e (x ∷ left) = IsDistinct-IsPermutation e flips ys (x ∷ left) out q in
      let rest = same_members xs left (IsDistinct-tail e x xs p) (IsDistinct-tail e x left apart)
      (λ z i.
      elim (Contains-cons_cases z x left (Contains-permutation ys (x ∷ left) z out (f z (Contains-behind z x xs i)))) [
        | inl t ↦ absurd (first_once x z xs p i t)
        | inr t ↦ t
      ])
      (λ z i.
      elim (Contains-cons_cases z x xs (g z (Contains-permutation (x ∷ left) ys z (IsPermutation-sym ys (x ∷ left) out) (Contains-behind z x left i)))) [
        | inl t ↦ absurd (first_once x z left apart i t)
        | inr t ↦ t
      ]) in
      IsPermutation-trans (x ∷ xs) (x ∷ left) ys (IsPermutation-cons x xs left rest) (IsPermutation-sym ys (x ∷ left) out)

  -- a test that no member passes counts nothing
  pub none_passes : (p : X → Bool) (n : ℕ) (xs : List X) → ((y : X) → Contains xs y → p y ≡ false) → sum_by (λ y. cond (p y) n 0) xs ≡ 0
  none_passes p n [] f = refl
  none_passes p n (y ∷ ys) f =
      let g : X → ℕ = λ z. cond (p z) n 0 in
      let here : g y ≡ 0 = cond-false (p y) n 0 (f y (Contains-first y ys)) in
      let rest : sum_by g ys ≡ 0 = none_passes p n ys (λ z i. f z (Contains-behind z y ys i)) in
      let first = sum_by-cons g y ys in
      omega (arith, first, here, rest)

  -- a test that at most one member passes counts once where one passes
  pub one_passes : (p : X → Bool) (n : ℕ) (xs : List X) (x : X) → IsDistinct e xs → Contains xs x → p x ≡ true → ((y : X) → Contains xs y → p y ≡ true → x ≡ y) → sum_by (λ y. cond (p y) n 0) xs ≡ n
  one_passes p n [] x d i t u = absurd (Contains-none x i)
  one_passes p n (y ∷ ys) x d i t u =
      let f : X → ℕ = λ z. cond (p z) n 0 in
      let first = sum_by-cons f y ys in
      elim (Contains-cons_cases x y ys i) [
        | inl q ↦
            let here : f y ≡ n = cond-true (p y) n 0 (ap p q ∙ t) in
            let others : sum_by f ys ≡ 0 = none_passes p n ys (λ z j. false_from_ne_true (p z) (λ v. first_once y z ys d j (q ∙ u z (Contains-behind z y ys j) v))) in
            omega (arith, first, here, others)
        | inr j ↦
            let here : f y ≡ 0 = cond-false (p y) n 0 (false_from_ne_true (p y) (λ v. first_once y x ys d j (sym (u y (Contains-first y ys) v)))) in
            let rest : sum_by f ys ≡ n = one_passes p n ys x (IsDistinct-tail e y ys d) j t (λ z k v. u z (Contains-behind z y ys k) v) in
            omega (arith, first, here, rest)
      ]

module _ {X : Type 0} (f : X → ℕ) where
  -- one more in a filter
  pub sum_filter-cons : (p : X → Bool) (x : X) (xs : List X) → sum_by f (filter p (x ∷ xs)) ≡ cond (p x) (f x) 0 + sum_by f (filter p xs)
  sum_filter-cons p x xs =
      elim (cases_Bool (p x)) [
        | inl t ↦ rw (t, sum_by-cons f x (filter p xs)) refl
        | inr n ↦ rw n (omega arith)
      ]

  pub sum_split : (p : X → Bool) (xs : List X) → sum_by f xs ≡ sum_by f (filter p xs) + sum_by f (filter (λ x. not (p x)) xs)
  sum_split p [] = refl
  sum_split p (x ∷ xs) =
      let rest = sum_split p xs in
      let first = sum_by-cons f x xs in
      elim (cases_Bool (p x)) [
        | inl t ↦ rw (t, first, sum_by-cons f x (filter p xs)) (omega (arith, rest))
        | inr n ↦ rw (n, first, sum_by-cons f x (filter (λ y. not (p y)) xs)) (omega (arith, rest))
      ]

  -- a sum of sums
  pub sum_both : (g : X → ℕ) (xs : List X) → sum_by (λ x. f x + g x) xs ≡ sum_by f xs + sum_by g xs
  sum_both g [] = refl
  sum_both g (x ∷ xs) =
      let rest = sum_both g xs in
      rw (sum_by-cons (λ y. f y + g y) x xs, sum_by-cons f x xs, sum_by-cons g x xs) (omega (arith, rest))

pub sum_agree : {X : Type 0} (f g : X → ℕ) (xs : List X) → ((x : X) → Contains xs x → f x ≡ g x) → sum_by f xs ≡ sum_by g xs
sum_agree f g [] h = refl
sum_agree f g (x ∷ xs) h =
    let here = h x (Contains-first x xs) in
    let rest = sum_agree f g xs (λ y i. h y (Contains-behind y x xs i)) in
    rw (sum_by-cons f x xs, sum_by-cons g x xs) (omega (arith, here, rest))

pub sum_zero : {X : Type 0} (xs : List X) → sum_by (λ (_ : X). 0) xs ≡ 0
sum_zero [] = refl
sum_zero {X = X} (x ∷ xs) =
    let first = sum_by-cons (λ (_ : X). 0) x xs in
    let rest = sum_zero xs in
    omega (arith, first, rest)
