-- Elements of lists by place, tests that they pass, and what is at a place or not.
use Rattle.std.proofs.Common.{◌≡◌, ℕ, suc, zero, ◌<◌, Bool, true, false, ◌&&◌, List, [], ◌∷◌, ◌++◌, length, Option, Some, None, is_some, refl, sym, ap, ◌∙◌, arith, ⊎_elim, All, map}
use Rattle.std.specs.List.{list_any, list_all, flat_map, slice_get}
use Rattle.std.proofs.lemmas.Bool.{false≢true, or_cases, and_parts, and_from}
use Rattle.std.proofs.Math.Bool.{and-true}
use Rattle.std.proofs.lemmas.List.Elements.{All-nil, All-cons}
use Rattle.std.proofs.lemmas.List.Folds.{list_all-append}
use Rattle.std.proofs.lemmas.Option.{none-some, same_Some}

-- what isn't something is nothing
pub none_from : {X : Type 0} (o : Option X) → is_some o ≡ false → o ≡ None
none_from None e = refl
none_from (Some x) e = absurd (false≢true (sym e))

-- an element that passes a test
pub record Found {X : Type 0} (p : X → Bool) (xs : List X) : Type 0 where
  pub place : ℕ
  pub item : X
  pub at : slice_get xs place ≡ Some item
  pub passes : p item ≡ true

pub found : {X : Type 0} (p : X → Bool) (xs : List X) → list_any p xs ≡ true → Found p xs
found p [] h = absurd (false≢true h)
found p (x ∷ xs) h =
    ⊎_elim (λ (y : p x ≡ true). record { place = 0; item = x; at = refl; passes = y })
    (λ (y : list_any p xs ≡ true). let f = found p xs y in record { place = suc f.place; item = f.item; at = f.at; passes = f.passes })
    (or_cases (p x) (list_any p xs) h)

-- a list stands at the front of itself and others
pub get_front : {X : Type 0} (xs ys : List X) (k : ℕ) → k < length xs → slice_get (xs ++ ys) k ≡ slice_get xs k
get_front [] ys k h = absurd (omega arith)
get_front (x ∷ xs) ys zero h = refl
get_front (x ∷ xs) ys (suc k) h = get_front xs ys k (omega arith)

-- an element of the image of a list
pub record Mapped {X Y : Type 0} (f : X → Y) (xs : List X) (k : ℕ) (y : Y) : Type 0 where
  pub item : X
  pub at : slice_get xs k ≡ Some item
  pub is : f item ≡ y

pub mapped : {X Y : Type 0} (f : X → Y) (xs : List X) (k : ℕ) (y : Y) → slice_get (map f xs) k ≡ Some y → Mapped f xs k y
mapped f [] k y e = absurd (none-some y e)
mapped f (x ∷ xs) zero y e = record { item = x; at = refl; is = same_Some (f x) y e }
mapped f (x ∷ xs) (suc k) y e = let m = mapped f xs k y e in record { item = m.item; at = m.at; is = m.is }

-- what holds at each place holds of all
pub all_from : {X : Type 0} (P : X → Type 0) (xs : List X) → ((k : ℕ) (x : X) → slice_get xs k ≡ Some x → P x) → All P xs
all_from P [] h = All-nil P
all_from P (x ∷ xs) h = All-cons P x xs (h 0 x refl) (all_from P xs (λ k y e. h (suc k) y e))

-- elements that pass one test pass another that follows from it
pub all-weaker : {X : Type 0} (p q : X → Bool) → ((x : X) → p x ≡ true → q x ≡ true) → (xs : List X) → list_all p xs ≡ true → list_all q xs ≡ true
all-weaker p q h [] e = refl
all-weaker p q h (x ∷ xs) e =
    let r = and_parts (p x) (list_all p xs) e in
    and_from (q x) (list_all q xs) (h x r.0) (all-weaker p q h xs r.1)

-- each list passes a test that everything passes
pub everywhere : {X : Type 0} (q : X → Bool) → ((x : X) → q x ≡ true) → (xs : List X) → list_all q xs ≡ true
everywhere q each [] = refl
everywhere q each (x ∷ xs) = and_from (q x) _ (each x) (everywhere q each xs)

-- one element more passes besides
pub list_all-push : {X : Type 0} (p : X → Bool) (xs : List X) (x : X) → list_all p (xs ++ x ∷ []) ≡ (list_all p xs && p x)
list_all-push p xs x = list_all-append p xs (x ∷ []) ∙ ap (λ b. list_all p xs && b) (and-true (p x))

-- where nothing is made of elements that pass a test, nothing is made of a list of them
pub flat_map-nothing : {X Y : Type 0} (f : X → List Y) (p : X → Bool) → ((x : X) → p x ≡ true → f x ≡ []) → (xs : List X) → list_all p xs ≡ true → flat_map f xs ≡ []
flat_map-nothing f p h [] e = refl
flat_map-nothing f p h (x ∷ xs) e =
    let q = and_parts (p x) (list_all p xs) e in
    rw (h x q.0) (flat_map-nothing f p h xs q.1)
