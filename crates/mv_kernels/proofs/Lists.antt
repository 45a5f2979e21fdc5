-- Members of lists, of their images and filters, and of sets that lists were put into.
use Rattle.std.proofs.Common.{◌≡◌, ◌∙◌, ℕ, zero, suc, ◌<◌, ◌⊎◌, Bool, true, ◌&&◌, List, [], ◌∷◌, ◌++◌, map, filter, length, get_or, All, Contains, inl, inr, refl, sym, ap, subst, arith, append_assoc}
use Rattle.std.proofs.lemmas.List.{append-nil}
use Rattle.std.proofs.lemmas.List.Elements.{All-nil, All-cons, All-head, All-tail, All-push, All-contains, All-contains_itself, All-filter, All-weaker, filter_passes, Contains-get_or, Contains-append_left, Contains-append_right}
use Rattle.std.proofs.lemmas.Bool.{cases_Bool, cond-true, cond_both}
use Rattle.std.specs.List.{list_any}
use Rattle.indexmap.specs.IndexSet.{insert_key, insert_all}
use Rattle.indexmap.proofs.CallerLemmas.{Contains-insert_key}

module _ {X : Type 0} where
  pub Contains-none : (x : X) → Contains [] x → ⊥
  Contains-none x h = let low : h.0 < 0 = h.1 in absurd (omega arith)

  pub Contains-first : (x : X) (xs : List X) → Contains (x ∷ xs) x
  Contains-first x xs = Contains-get_or (x ∷ xs) 0 x (omega arith)

  pub Contains-behind : (x y : X) (xs : List X) → Contains xs x → Contains (y ∷ xs) x
  Contains-behind x y xs h = Contains-append_right (y ∷ []) xs x h

  at_place : (x y : X) (xs : List X) (k : ℕ) → k < length (y ∷ xs) → get_or (y ∷ xs) k x ≡ x → (y ≡ x) ⊎ Contains xs x
  at_place x y xs zero low e = inl e
  at_place x y xs (suc k) low e = inr (k, omega arith, e)

  pub Contains-cons_cases : (x y : X) (xs : List X) → Contains (y ∷ xs) x → (y ≡ x) ⊎ Contains xs x
  Contains-cons_cases x y xs h = at_place x y xs h.0 h.1 h.2

  -- a list of which another has each member
  pub All-Contains : (xs ys : List X) → ((x : X) → Contains xs x → Contains ys x) → All (Contains ys) xs
  All-Contains xs ys f = All-weaker (Contains xs) (Contains ys) f xs (All-contains_itself xs)

  pub Contains-filter : (p : X → Bool) (xs : List X) (x : X) → p x ≡ true → Contains xs x → Contains (filter p xs) x
  Contains-filter p [] x ok h = h
  Contains-filter p (y ∷ ys) x ok h =
      elim (Contains-cons_cases x y ys h) [
        | inl e ↦
            subst (λ (zs : List X). Contains zs x) (sym (cond-true (p y) (y ∷ filter p ys) (filter p ys) (ap p e ∙ ok)))
            (subst (λ (z : X). Contains (y ∷ filter p ys) z) e (Contains-first y (filter p ys)))
        | inr t ↦
            let rest = Contains-filter p ys x ok t in
            cond_both (p y) (y ∷ filter p ys) (filter p ys) (λ (zs : List X). Contains zs x) (λ _. Contains-behind x y (filter p ys) rest) (λ _. rest)
      ]

  pub Contains-from_filter : (p : X → Bool) (xs : List X) (x : X) → Contains (filter p xs) x → Contains xs x × (p x ≡ true)
  Contains-from_filter p xs x h = (
    All-contains (Contains xs) (filter p xs) x (All-filter p (Contains xs) xs (All-contains_itself xs)) h,
    All-contains (λ (y : X). p y ≡ true) (filter p xs) x (filter_passes p xs) h,
  )

  -- two filters in turn are one by both tests
  pub filter_twice : (p q r : X → Bool) → ((x : X) → r x ≡ (p x && q x)) → (xs : List X) → filter r xs ≡ filter q (filter p xs)
  filter_twice p q r h [] = refl
  filter_twice p q r h (x ∷ xs) =
      let rest = filter_twice p q r h xs in
      elim (cases_Bool (p x)) [
        | inl t ↦
            elim (cases_Bool (q x)) [
              | inl u ↦ rw (h x, t, u) (ap (λ (ys : List X). x ∷ ys) rest)
              | inr u ↦ rw (h x, t, u) rest
            ]
        | inr t ↦ rw (h x, t) rest
      ]

module _ {X Y : Type 0} (f : X → Y) where
  pub Contains-map : (xs : List X) (x : X) → Contains xs x → Contains (map f xs) (f x)
  Contains-map [] x h = absurd (Contains-none x h)
  Contains-map (y ∷ ys) x h =
      elim (Contains-cons_cases x y ys h) [
        | inl e ↦ subst (λ (z : X). Contains (f y ∷ map f ys) (f z)) e (Contains-first (f y) (map f ys))
        | inr t ↦ Contains-behind (f x) (f y) (map f ys) (Contains-map ys x t)
      ]

  pub Contains-from_map : (xs : List X) (y : Y) → Contains (map f xs) y → (x : X) × Contains xs x × (y ≡ f x)
  Contains-from_map [] y h = absurd (Contains-none y h)
  Contains-from_map (x ∷ xs) y h =
      elim (Contains-cons_cases y (f x) (map f xs) h) [
        | inl e ↦ (x, Contains-first x xs, sym e)
        | inr t ↦ let r = Contains-from_map xs y t in (r.0, Contains-behind r.0 x xs r.1, r.2)
      ]

-- what a set holds when each of a list was put into it
module _ {K : Type 0} (eq : K → K → Bool) where
  insert_key-grows : (ks : List K) (k : K) → (more : List K) × (insert_key eq ks k ≡ ks ++ more)
  insert_key-grows ks k =
      elim (cases_Bool (list_any (eq k) ks)) [
        | inl t ↦ ([], rw t (sym (append-nil ks)))
        | inr t ↦ (k ∷ [], rw t refl)
      ]

  pub insert_all-grows : (ks xs : List K) → (more : List K) × (insert_all eq ks xs ≡ ks ++ more)
  insert_all-grows ks [] = ([], sym (append-nil ks))
  insert_all-grows ks (x ∷ xs) =
      let one = insert_key-grows ks x in
      let rest = insert_all-grows (insert_key eq ks x) xs in
      (one.0 ++ rest.0, rest.1 ∙ (ap (λ (l : List K). l ++ rest.0) one.1 ∙ append_assoc ks one.0 rest.0))

  pub insert_all-keeps : (ks xs : List K) (k : K) → Contains ks k → Contains (insert_all eq ks xs) k
  insert_all-keeps ks xs k h =
      let g = insert_all-grows ks xs in
      subst (λ (l : List K). Contains l k) (sym g.1) (Contains-append_left ks g.0 k h)

  pub insert_all-has : ((x y : K) → eq x y ≡ true → x ≡ y) → (ks xs : List K) → All (Contains (insert_all eq ks xs)) xs
  insert_all-has same ks [] = All-nil (Contains (insert_all eq ks []))
  insert_all-has same ks (x ∷ xs) =
      All-cons (Contains (insert_all eq ks (x ∷ xs))) x xs (insert_all-keeps (insert_key eq ks x) xs x (Contains-insert_key eq same ks x)) (insert_all-has same (insert_key eq ks x) xs)

  pub insert_all-each : (P : K → Type 0) (ks xs : List K) → All P ks → All P xs → All P (insert_all eq ks xs)
  insert_all-each P ks [] a b = a
  insert_all-each P ks (x ∷ xs) a b =
      insert_all-each P (insert_key eq ks x) xs
      (cond_both (list_any (eq x) ks) ks (ks ++ x ∷ []) (λ (l : List K). All P l) (λ _. a) (λ _. All-push P ks x a (All-head P x xs b)))
      (All-tail P x xs b)
