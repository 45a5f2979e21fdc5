-- A list without some elements that stand before them, and what is the same of it.
use Rattle.std.proofs.Common.{◌≡◌, ◌⊎◌, Bool, true, false, List, [], ◌∷◌, ◌++◌, map, filter, if◌then◌else◌, inl, inr, append-nil, append_assoc, refl, sym, ◌∙◌, ap, subst, All, Decides}
use Rattle.std.specs.List.{flat_map, list_any}
use Rattle.std.proofs.lemmas.Bool.{cases_Bool, or_left, or_right, or_cases, or_parts, false≢true}
use Rattle.std.proofs.lemmas.List.Elements.{All-nil, All-cons, All-head, All-tail, All-same}
use Rattle.indexmap.specs.IndexSet.{insert_key, insert_all}
use Rattle.mv_base.specs.Firsts.{firsts_by}
use Rattle.mv_base.proofs.Firsts.{keys-firsts}

-- ---- elements of lists

-- an element stands in a list
abbrev pub IsIn : {T : Type 0} → T → List T → Type 0
IsIn x [] = ⊥
IsIn x (y ∷ ys) = (x ≡ y) ⊎ IsIn x ys

pub in_front : {T : Type 0} (x : T) (xs ys : List T) → IsIn x xs → IsIn x (xs ++ ys)
in_front x [] ys h = absurd h
in_front x (z ∷ xs) ys (inl e) = inl e
in_front x (z ∷ xs) ys (inr h) = inr (in_front x xs ys h)

pub in_back : {T : Type 0} (x : T) (xs ys : List T) → IsIn x ys → IsIn x (xs ++ ys)
in_back x [] ys h = h
in_back x (z ∷ xs) ys h = inr (in_back x xs ys h)

pub in_either : {T : Type 0} (x : T) (xs ys : List T) → IsIn x (xs ++ ys) → IsIn x xs ⊎ IsIn x ys
in_either x [] ys h = inr h
in_either x (z ∷ xs) ys (inl e) = inl (inl e)
in_either x (z ∷ xs) ys (inr h) =
    elim (in_either x xs ys h) [
      | inl a ↦ inl (inr a)
      | inr b ↦ inr b
    ]

in_flat : {A B : Type 0} (f : A → List B) (x : A) (b : List A) (y : B) → IsIn x b → IsIn y (f x) → IsIn y (flat_map f b)
in_flat f x [] y h i = absurd h
in_flat f x (a ∷ b) y (inl e) i = in_front y (f a) (flat_map f b) (subst (λ z. IsIn y (f z)) e i)
in_flat f x (a ∷ b) y (inr h) i = in_back y (f a) (flat_map f b) (in_flat f x b y h i)

-- ---- lists that are thinned

-- an element, and others behind it
pub record IsBegun {T : Type 0} (x : T) (Rest : List T → Type 0) (ys : List T) : Type 0 where
  pub rest : List T
  pub is : ys ≡ x ∷ rest
  pub are : Rest rest

-- where the elements `before` stand in front, ys is xs without some that stand before them
abbrev pub Thinned : {T : Type 0} → List T → List T → List T → Type 0
Thinned before [] ys = ys ≡ []
Thinned before (x ∷ xs) ys = (IsIn x before × Thinned before xs ys) ⊎ IsBegun x (Thinned (before ++ x ∷ []) xs) ys

pub drop_all : {T : Type 0} (b zs xs ys : List T) → ((x : T) → IsIn x zs → IsIn x b) → Thinned b xs ys → Thinned b (zs ++ xs) ys
drop_all b [] xs ys h t = t
drop_all b (z ∷ zs) xs ys h t = inl (h z (inl refl), drop_all b zs xs ys (λ x i. h x (inr i)) t)

pub keep_all : {T : Type 0} (b zs xs ys : List T) → Thinned (b ++ zs) xs ys → Thinned b (zs ++ xs) (zs ++ ys)
keep_all b [] xs ys t = subst (λ c. Thinned c xs ys) (append-nil b) t
keep_all b (z ∷ zs) xs ys t = inr (record {
  rest = zs ++ ys;
  is = refl;
  are = keep_all (b ++ z ∷ []) zs xs ys (subst (λ c. Thinned c xs ys) (sym (append_assoc b (z ∷ []) zs)) t);
})

flat_seam : {A B : Type 0} (f : A → List B) (b : List A) (x : A) → flat_map f (b ++ x ∷ []) ≡ flat_map f b ++ f x
flat_seam f [] x = append-nil (f x)
flat_seam f (a ∷ b) x = ap (λ zs. f a ++ zs) (flat_seam f b x) ∙ sym (append_assoc (f a) (flat_map f b) (f x))

pub thin_flat : {A B : Type 0} (f : A → List B) (b xs ys : List A) → Thinned b xs ys → Thinned (flat_map f b) (flat_map f xs) (flat_map f ys)
thin_flat f b [] ys t = ap (flat_map f) t
thin_flat f b (x ∷ xs) ys (inl h) =
    drop_all (flat_map f b) (f x) (flat_map f xs) (flat_map f ys) (λ y i. in_flat f x b y h.0 i) (thin_flat f b xs ys h.1)
thin_flat f b (x ∷ xs) ys (inr k) =
    subst (λ zs. Thinned (flat_map f b) (f x ++ flat_map f xs) zs) (sym (ap (flat_map f) k.is))
    (keep_all (flat_map f b) (f x) (flat_map f xs) (flat_map f k.rest)
    (subst (λ c. Thinned c (flat_map f xs) (flat_map f k.rest)) (flat_seam f b x) (thin_flat f (b ++ x ∷ []) xs k.rest k.are)))

mapped_flat : {A B : Type 0} (f : A → B) (xs : List A) → flat_map (λ x. f x ∷ []) xs ≡ map f xs
mapped_flat f [] = refl
mapped_flat f (x ∷ xs) = ap (λ ys. f x ∷ ys) (mapped_flat f xs)

pub thin_map : {A B : Type 0} (f : A → B) (xs ys : List A) → Thinned [] xs ys → Thinned [] (map f xs) (map f ys)
thin_map f xs ys t =
    subst (λ zs. Thinned [] zs (map f ys)) (mapped_flat f xs)
    (subst (λ zs. Thinned [] (flat_map (λ x. f x ∷ []) xs) zs) (mapped_flat f ys) (thin_flat (λ x. f x ∷ []) [] xs ys t))

passed : {A : Type 0} → (A → Bool) → A → List A
passed p x = if p x then x ∷ [] else []

filtered_flat : {A : Type 0} (p : A → Bool) (xs : List A) → flat_map (passed p) xs ≡ filter p xs
unfolding passed
filtered_flat p [] = refl
filtered_flat p (x ∷ xs) =
    elim (cases_Bool (p x)) [
      | inl y ↦ rw y (ap (λ ys. x ∷ ys) (filtered_flat p xs))
      | inr n ↦ rw n (filtered_flat p xs)
    ]

pub thin_filter : {A : Type 0} (p : A → Bool) (xs ys : List A) → Thinned [] xs ys → Thinned [] (filter p xs) (filter p ys)
thin_filter p xs ys t =
    subst (λ zs. Thinned [] zs (filter p ys)) (filtered_flat p xs)
    (subst (λ zs. Thinned [] (flat_map (passed p) xs) zs) (filtered_flat p ys) (thin_flat (passed p) [] xs ys t))

pub thin_same : {T : Type 0} (b zs : List T) → Thinned b zs zs
thin_same b [] = refl
thin_same b (z ∷ zs) = inr (record { rest = zs; is = refl; are = thin_same (b ++ z ∷ []) zs })

pub thin_append : {T : Type 0} (b xs ys zs : List T) → Thinned b xs ys → Thinned b (xs ++ zs) (ys ++ zs)
thin_append b [] ys zs t = subst (λ us. Thinned b zs (us ++ zs)) (sym t) (thin_same b zs)
thin_append b (x ∷ xs) ys zs (inl h) = inl (h.0, thin_append b xs ys zs h.1)
thin_append b (x ∷ xs) ys zs (inr k) = inr (record {
  rest = k.rest ++ zs;
  is = ap (λ us. us ++ zs) k.is;
  are = thin_append (b ++ x ∷ []) xs k.rest zs k.are;
})

-- ---- what is the same of a thinned list

pub all_thin : {T : Type 0} (P : T → Type 0) (b xs ys : List T) → Thinned b xs ys → All P xs → All P ys
all_thin P b [] ys t all = All-same P ys [] t (All-nil P)
all_thin P b (x ∷ xs) ys (inl h) all = all_thin P b xs ys h.1 (All-tail P x xs all)
all_thin P b (x ∷ xs) ys (inr k) all =
    All-same P ys (x ∷ k.rest) k.is (All-cons P x k.rest (All-head P x xs all) (all_thin P (b ++ x ∷ []) xs k.rest k.are (All-tail P x xs all)))

none_in : {T : Type 0} (p : T → Bool) (b : List T) (x : T) → list_any p b ≡ false → IsIn x b → p x ≡ false
none_in p [] x none h = absurd h
none_in p (y ∷ b) x none (inl e) = ap p e ∙ (or_parts (p y) (list_any p b) none).0
none_in p (y ∷ b) x none (inr h) = none_in p b x (or_parts (p y) (list_any p b) none).1 h

none_more : {T : Type 0} (p : T → Bool) (b : List T) (x : T) → list_any p b ≡ false → p x ≡ false → list_any p (b ++ x ∷ []) ≡ false
none_more p [] x none n = rw n refl
none_more p (y ∷ b) x none n = rw ((or_parts (p y) (list_any p b) none).0) (none_more p b x (or_parts (p y) (list_any p b) none).1 n)

any_thin_from : {T : Type 0} (p : T → Bool) (b xs ys : List T) → list_any p b ≡ false → Thinned b xs ys → list_any p xs ≡ list_any p ys
any_thin_from p b [] ys none t = sym (ap (list_any p) t)
any_thin_from p b (x ∷ xs) ys none (inl h) = rw (none_in p b x none h.0) (any_thin_from p b xs ys none h.1)
any_thin_from p b (x ∷ xs) ys none (inr k) =
    elim (cases_Bool (p x)) [
      | inl y ↦ rw y (sym (ap (list_any p) k.is ∙ rw y refl))
      | inr n ↦ rw n (any_thin_from p (b ++ x ∷ []) xs k.rest (none_more p b x none n) k.are ∙ sym (ap (list_any p) k.is ∙ rw n refl))
    ]

pub any_thin : {T : Type 0} (p : T → Bool) (xs ys : List T) → Thinned [] xs ys → list_any p xs ≡ list_any p ys
any_thin p xs ys t = any_thin_from p [] xs ys refl t

-- ---- keys of a set

module _ {T : Type 0} (eq : T → T → Bool) (dec : (a b : T) → Decides (eq a b) (a ≡ b)) where
  among_last : (x : T) (keys : List T) → list_any (eq x) (keys ++ x ∷ []) ≡ true
  among_last x [] = or_left _ _ ((dec x x).1 refl)
  among_last x (y ∷ keys) = or_right _ _ (among_last x keys)

  among_front : (x z : T) (keys : List T) → list_any (eq x) keys ≡ true → list_any (eq x) (keys ++ z ∷ []) ≡ true
  among_front x z [] h = absurd (false≢true h)
  among_front x z (y ∷ keys) h =
      elim (or_cases (eq x y) (list_any (eq x) keys) h) [
        | inl e ↦ or_left _ _ e
        | inr g ↦ or_right _ _ (among_front x z keys g)
      ]

  among_key : (keys : List T) (x : T) → list_any (eq x) (insert_key eq keys x) ≡ true
  among_key keys x =
      elim (cases_Bool (list_any (eq x) keys)) [
        | inl y ↦ rw y y
        | inr n ↦ rw n (among_last x keys)
      ]

  among_with : (keys : List T) (x z : T) → list_any (eq x) keys ≡ true → list_any (eq x) (insert_key eq keys z) ≡ true
  among_with keys x z h =
      elim (cases_Bool (list_any (eq z) keys)) [
        | inl y ↦ rw y h
        | inr n ↦ rw n (among_front x z keys h)
      ]

  inserted_from : (keys b xs ys : List T) → ((x : T) → IsIn x b → list_any (eq x) keys ≡ true) → Thinned b xs ys → insert_all eq keys xs ≡ insert_all eq keys ys
  inserted_from keys b [] ys there t = sym (ap (insert_all eq keys) t)
  inserted_from keys b (x ∷ xs) ys there (inl h) =
      let same : insert_key eq keys x ≡ keys = rw (there x h.0) refl in
      ap (λ ks. insert_all eq ks xs) same ∙ inserted_from keys b xs ys there h.1
  inserted_from keys b (x ∷ xs) ys there (inr k) =
      inserted_from (insert_key eq keys x) (b ++ x ∷ []) xs k.rest
      (λ y i. elim (in_either y b (x ∷ []) i) [
        | inl a ↦ among_with keys y x (there y a)
        | inr c ↦ elim c [
          | inl e ↦ subst (λ z. list_any (eq z) (insert_key eq keys x) ≡ true) (sym e) (among_key keys x)
          | inr n ↦ absurd n
        ]
      ])
      k.are
      ∙ sym (ap (insert_all eq keys) k.is)

  -- a set has the same keys
  pub inserted_thin : (xs ys : List T) → Thinned [] xs ys → insert_all eq [] xs ≡ insert_all eq [] ys
  inserted_thin xs ys t = inserted_from [] [] xs ys (λ x i. absurd i) t

  -- ---- the first of each

  in_keys : (keys : List T) (x : T) → list_any (eq x) keys ≡ true → IsIn x keys
  in_keys [] x h = absurd (false≢true h)
  in_keys (y ∷ keys) x h =
      elim (or_cases (eq x y) (list_any (eq x) keys) h) [
        | inl e ↦ inl ((dec x y).0 e)
        | inr g ↦ inr (in_keys keys x g)
      ]

  -- the keys with others behind them, which are the elements without some that stand before them
  record IsGrown (keys xs all : List T) : Type 0 where
    rest : List T
    is : all ≡ keys ++ rest
    thin : Thinned keys xs rest

  grown_old : (keys xs all : List T) (x : T) → list_any (eq x) keys ≡ true → IsGrown keys xs all → IsGrown keys (x ∷ xs) all
  grown_old keys xs all x there g = record { rest = g.rest; is = g.is; thin = inl (in_keys keys x there, g.thin) }

  grown_new : (keys xs all : List T) (x : T) → IsGrown (keys ++ x ∷ []) xs all → IsGrown keys (x ∷ xs) all
  grown_new keys xs all x g = record {
    rest = x ∷ g.rest;
    is = g.is ∙ append_assoc keys (x ∷ []) g.rest;
    thin = inr (record { rest = g.rest; is = refl; are = g.thin });
  }

  grown : (keys xs : List T) → IsGrown keys xs (insert_all eq keys xs)
  grown keys [] = record { rest = []; is = sym (append-nil keys); thin = refl }
  grown keys (x ∷ xs) =
      elim (cases_Bool (list_any (eq x) keys)) [
        | inl y ↦
            let same : keys ≡ insert_key eq keys x = rw y refl in
            grown_old keys xs (insert_all eq keys (x ∷ xs)) x y (subst (λ ks. IsGrown keys xs (insert_all eq ks xs)) same (grown keys xs))
        | inr n ↦
            let more : keys ++ x ∷ [] ≡ insert_key eq keys x = rw n refl in
            grown_new keys xs (insert_all eq keys (x ∷ xs)) x (subst (λ ks. IsGrown (keys ++ x ∷ []) xs (insert_all eq ks xs)) more (grown (keys ++ x ∷ []) xs))
      ]

  -- the elements without those that are equal to an earlier one
  pub thin_firsts : (xs : List T) → Thinned [] xs (firsts_by eq xs)
  thin_firsts xs =
      let g = grown [] xs in
      subst (Thinned [] xs) (sym g.is ∙ keys-firsts eq (λ a b. (dec a b).0) xs) g.thin
