-- A list cut at its ends: all parts, what one more item at the end does, and the part up to the first end.
use Rattle.std.proofs.Common.{◌≡◌, Bool, true, false, not, List, [], ◌∷◌, ◌++◌, if◌then◌else◌, refl, ap, ◌∙◌, cond}
use Rattle.std.specs.List.{list_all, slice_split, onto_first}
use Rattle.std.proofs.lemmas.Bool.{and_parts, not-true}
use Rattle.std.proofs.lemmas.List.Splits.{slice_split-cons_yes, slice_split-cons_no}
use Rattle.mv_lex.specs.Cuts.{onto, closed, with_front, open_piece}

onto-append : {A : Type 0} (b : A) (front : List (List A)) (last : List A) → onto b (front ++ last ∷ []) ≡ onto b front ++ with_front front b last ∷ []
onto-append b [] last = refl
onto-append b (piece ∷ front) last = refl

onto_first-append : {A : Type 0} (b : A) (front : List (List A)) (last : List A) → onto_first b (front ++ last ∷ []) ≡ onto b front ++ with_front front b last ∷ []
onto_first-append b [] last = refl
onto_first-append b (piece ∷ front) last = refl

-- all parts are the closed pieces and the open one
pub split_all : {A : Type 0} (p : A → Bool) (xs : List A) → slice_split p xs ≡ closed p xs ++ open_piece p xs ∷ []
split_all p [] = refl
split_all p (x ∷ xs) =
    elim (p x) as (λ t. cond t ([] ∷ slice_split p xs) (onto_first x (slice_split p xs)) ≡ (if t then [] ∷ closed p xs else onto x (closed p xs)) ++ (if t then open_piece p xs else with_front (closed p xs) x (open_piece p xs)) ∷ []) [
      | true ↦ ap (λ ps. [] ∷ ps) (split_all p xs)
      | false ↦ ap (onto_first x) (split_all p xs) ∙ onto_first-append x (closed p xs) (open_piece p xs)
    ]

with_front-append : {A : Type 0} (front : List (List A)) (b : A) (last piece : List A) → with_front (front ++ last ∷ []) b piece ≡ piece
with_front-append [] b last piece = refl
with_front-append (_ ∷ front) b last piece = refl

with_front-more : {A : Type 0} (front : List (List A)) (b c : A) (last : List A) → with_front front b (last ++ c ∷ []) ≡ with_front front b last ++ c ∷ []
with_front-more [] b c last = refl
with_front-more (_ ∷ front) b c last = refl

-- an end closes the open piece
pub closed-end : {A : Type 0} (p : A → Bool) (xs : List A) (b : A) → p b ≡ true → closed p (xs ++ b ∷ []) ≡ closed p xs ++ open_piece p xs ∷ []
closed-end p [] b h = rw h refl
closed-end p (x ∷ xs) b h =
    elim (p x) as (λ t. (if t then [] ∷ closed p (xs ++ b ∷ []) else onto x (closed p (xs ++ b ∷ []))) ≡ (if t then [] ∷ closed p xs else onto x (closed p xs)) ++ (if t then open_piece p xs else with_front (closed p xs) x (open_piece p xs)) ∷ []) [
      | true ↦ ap (λ ps. [] ∷ ps) (closed-end p xs b h)
      | false ↦ ap (λ ps. onto x ps) (closed-end p xs b h) ∙ onto-append x (closed p xs) (open_piece p xs)
    ]

-- another item closes none
pub closed-more : {A : Type 0} (p : A → Bool) (xs : List A) (b : A) → p b ≡ false → closed p (xs ++ b ∷ []) ≡ closed p xs
closed-more p [] b h = rw h refl
closed-more p (x ∷ xs) b h =
    ap (λ ps. if p x then [] ∷ ps else onto x ps) (closed-more p xs b h)

-- behind an end the open piece is empty
pub open_piece-end : {A : Type 0} (p : A → Bool) (xs : List A) (b : A) → p b ≡ true → open_piece p (xs ++ b ∷ []) ≡ []
open_piece-end p [] b h = rw h refl
open_piece-end p (x ∷ xs) b h =
    elim (p x) as (λ t. (if t then open_piece p (xs ++ b ∷ []) else with_front (closed p (xs ++ b ∷ [])) x (open_piece p (xs ++ b ∷ []))) ≡ []) [
      | true ↦ open_piece-end p xs b h
      | false ↦ ap (λ ps. with_front ps x (open_piece p (xs ++ b ∷ []))) (closed-end p xs b h) ∙ with_front-append (closed p xs) x (open_piece p xs) (open_piece p (xs ++ b ∷ [])) ∙ open_piece-end p xs b h
    ]

-- another item goes to the open piece
pub open_piece-more : {A : Type 0} (p : A → Bool) (xs : List A) (b : A) → p b ≡ false → open_piece p (xs ++ b ∷ []) ≡ open_piece p xs ++ b ∷ []
open_piece-more p [] b h = rw h refl
open_piece-more p (x ∷ xs) b h =
    elim (p x) as (λ t. (if t then open_piece p (xs ++ b ∷ []) else with_front (closed p (xs ++ b ∷ [])) x (open_piece p (xs ++ b ∷ []))) ≡ (if t then open_piece p xs else with_front (closed p xs) x (open_piece p xs)) ++ b ∷ []) [
      | true ↦ open_piece-more p xs b h
      | false ↦ rw (closed-more p xs b h, open_piece-more p xs b h) (with_front-more (closed p xs) x b (open_piece p xs))
    ]

-- no item of the list is an end
abbrev pub has_none : {A : Type 0} → (A → Bool) → List A → Bool
has_none p xs = list_all (λ x. not (p x)) xs

-- the part up to the first end
pub split-first : {A : Type 0} (p : A → Bool) (w : List A) (b : A) (rest : List A) → has_none p w ≡ true → p b ≡ true → slice_split p (w ++ b ∷ rest) ≡ w ∷ slice_split p rest
split-first p [] b rest none h = slice_split-cons_yes p b rest h
split-first p (x ∷ w) b rest none h =
    let both = and_parts (not (p x)) (has_none p w) none in
    slice_split-cons_no p x (w ++ b ∷ rest) (not-true (p x) both.0) ∙ ap (onto_first x) (split-first p w b rest both.1 h)

-- without an end all of it is one open piece
pub closed-none : {A : Type 0} (p : A → Bool) (w : List A) → has_none p w ≡ true → closed p w ≡ []
closed-none p [] none = refl
closed-none p (x ∷ w) none =
    let both = and_parts (not (p x)) (has_none p w) none in
    rw (not-true (p x) both.0, closed-none p w both.1) refl

pub open_piece-none : {A : Type 0} (p : A → Bool) (w : List A) → has_none p w ≡ true → open_piece p w ≡ w
open_piece-none p [] none = refl
open_piece-none p (x ∷ w) none =
    let both = and_parts (not (p x)) (has_none p w) none in
    rw (not-true (p x) both.0, closed-none p w both.1) (ap (λ ys. x ∷ ys) (open_piece-none p w both.1))
