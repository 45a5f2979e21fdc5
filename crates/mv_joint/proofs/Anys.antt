-- Tests of some item of a list: of joined, mapped and left out items, and of numbers.
use Rattle.std.proofs.Common.{◌≡◌, ℕ, zero, suc, ◌+◌, ◌<◌, ◌≤◌, Bool, true, false, ◌&&◌, ◌||◌, nat_eq, List, [], ◌∷◌, filter, map, refl, sym, ◌∙◌, ap, arith, inl, inr, All}
use Rattle.std.specs.List.{list_any, flat_map, range_with_len}
use Rattle.std.proofs.Math.Bool.{and-false, or-false}
use Rattle.std.proofs.lemmas.Bool.{cases_Bool, cases_order, eq-eqb, ne_eqb}
use Rattle.std.proofs.lemmas.List.Elements.{All-head, All-tail}
use Rattle.std.proofs.lemmas.List.Folds.{list_any-append}

-- tests that agree at each item, which are all of a kind
pub any_same : {X : Type 0} (P : X → Type 0) (p q : X → Bool) → ((x : X) → P x → p x ≡ q x) → (xs : List X) → All P xs → list_any p xs ≡ list_any q xs
any_same P p q same [] all = refl
any_same P p q same (x ∷ xs) all =
    let here = same x (All-head P x xs all) in
    let rest = any_same P p q same xs (All-tail P x xs all) in
    λ i. here i || rest i

pub any-map : {X Y : Type 0} (p : Y → Bool) (f : X → Y) (xs : List X) → list_any p (map f xs) ≡ list_any (λ x. p (f x)) xs
any-map p f [] = refl
any-map p f (x ∷ xs) = ap (λ b. p (f x) || b) (any-map p f xs)

pub any-flat_map : {X Y : Type 0} (p : Y → Bool) (f : X → List Y) (xs : List X) → list_any p (flat_map f xs) ≡ list_any (λ x. list_any p (f x)) xs
any-flat_map p f [] = refl
any-flat_map p f (x ∷ xs) = list_any-append p (f x) (flat_map f xs) ∙ ap (λ b. list_any p (f x) || b) (any-flat_map p f xs)

-- an item that is left out fails the test
pub any-filter : {X : Type 0} (p q : X → Bool) → ((x : X) → q x ≡ false → p x ≡ false) → (xs : List X) → list_any p (filter q xs) ≡ list_any p xs
any-filter p q fails [] = refl
any-filter p q fails (x ∷ xs) =
    let rest = any-filter p q fails xs in
    elim (cases_Bool (q x)) [
      | inl t ↦ rw t (ap (λ b. p x || b) rest)
      | inr f ↦ rw f (rest ∙ sym (ap (λ b. b || list_any p xs) (fails x f)))
    ]

-- the same where the items are all of a kind
pub any-filter_all : {X : Type 0} (P : X → Type 0) (p q : X → Bool) → ((x : X) → P x → q x ≡ false → p x ≡ false) → (xs : List X) → All P xs → list_any p (filter q xs) ≡ list_any p xs
any-filter_all P p q fails [] all = refl
any-filter_all P p q fails (x ∷ xs) all =
    let rest = any-filter_all P p q fails xs (All-tail P x xs all) in
    elim (cases_Bool (q x)) [
      | inl t ↦ rw t (ap (λ b. p x || b) rest)
      | inr f ↦ rw f (rest ∙ sym (ap (λ b. b || list_any p xs) (fails x (All-head P x xs all) f)))
    ]

and_under : (m a b : Bool) → (m && (a || b)) ≡ ((m && a) || (m && b))
and_under true a b = refl
and_under false a b = refl

pub any-and : {X : Type 0} (m : Bool) (p : X → Bool) (xs : List X) → list_any (λ x. m && p x) xs ≡ (m && list_any p xs)
any-and m p [] = sym (and-false m)
any-and m p (x ∷ xs) = ap (λ b. (m && p x) || b) (any-and m p xs) ∙ sym (and_under m (p x) (list_any p xs))

either_and : (a b o x y : Bool) → (((a || b) && o) || (x || y)) ≡ (((a && o) || x) || ((b && o) || y))
either_and true true true x y = refl
either_and true true false x y = refl
either_and true false true x y = refl
either_and true false false x y = refl
either_and false true true true y = refl
either_and false true true false y = refl
either_and false true false x y = refl
either_and false false o x y = refl

pub any-either : {X : Type 0} (a b o : X → Bool) (xs : List X) → list_any (λ x. (a x || b x) && o x) xs ≡ (list_any (λ x. a x && o x) xs || list_any (λ x. b x && o x) xs)
any-either a b o [] = refl
any-either a b o (x ∷ xs) = ap (λ c. ((a x || b x) && o x) || c) (any-either a b o xs) ∙ either_and (a x) (b x) (o x) (list_any (λ y. a y && o y) xs) (list_any (λ y. b y && o y) xs)

-- no number from a on is x, which is below a
none_below : (x a n : ℕ) (f : ℕ → Bool) → x < a → list_any (λ v. nat_eq x v && f v) (range_with_len a n) ≡ false
none_below x a zero f low = refl
none_below x a (suc n) f low =
    let here : nat_eq x a ≡ false = ne_eqb x a (λ e. absurd (omega arith)) in
    ap (λ b. (b && f a) || list_any (λ v. nat_eq x v && f v) (range_with_len (a + 1) n)) here ∙ none_below x (a + 1) n f (omega arith)

one_from : (x a n : ℕ) (f : ℕ → Bool) → a ≤ x → x < a + n → list_any (λ v. nat_eq x v && f v) (range_with_len a n) ≡ f x
one_from x a zero f low high = absurd (omega arith)
one_from x a (suc n) f low high =
    elim (cases_order x a) [
      | inl same ↦
          ap (λ b. (b && f a) || list_any (λ v. nat_eq x v && f v) (range_with_len (a + 1) n)) (eq-eqb x a same)
          ∙ (ap (λ b. f a || b) (none_below x (a + 1) n f (omega arith)) ∙ (or-false (f a) ∙ ap f (sym same)))
      | inr apart ↦
          elim apart [
            | inl less ↦ absurd (omega arith)
            | inr more ↦
                ap (λ b. (b && f a) || list_any (λ v. nat_eq x v && f v) (range_with_len (a + 1) n)) (ne_eqb x a (λ e. absurd (omega arith)))
                ∙ one_from x (a + 1) n f (omega arith) (omega arith)
          ]
    ]

-- one number below n is x
pub one_is : (x n : ℕ) (f : ℕ → Bool) → x < n → list_any (λ v. nat_eq x v && f v) (range_with_len 0 n) ≡ f x
one_is x n f low = one_from x 0 n f (omega arith) (omega arith)
