-- Two lists in one, by line: it has the elements of both.
use Rattle.std.proofs.Common.{◌≡◌, ℕ, Bool, true, false, ◌&&◌, List, [], ◌∷◌, ◌++◌, length, refl, sym, ap, ◌∙◌, arith, All}
use Rattle.std.specs.Prelude.{nat_lt, if◌then◌else◌}
use Rattle.std.specs.List.{flat_map, list_all}
use Rattle.std.specs.List.Sorted.{IsPermutation}
use Rattle.std.proofs.lemmas.Bool.{false≢true, lt-ltb}
use Rattle.std.proofs.lemmas.Bool.Decides.{same_from_decides}
use Rattle.std.proofs.lemmas.List.{append_assoc, map-id}
use Rattle.std.proofs.lemmas.Grind.{flat_map-append}
use Rattle.std.proofs.lemmas.List.Concat.{flat_map_single}
use Rattle.std.proofs.lemmas.List.Elements.{All-append}
use Rattle.std.proofs.lemmas.List.Folds.{list_all-append}
use Rattle.std.proofs.lemmas.List.Sorted.{IsPermutation-refl, IsPermutation-sym, IsPermutation-trans, All-permutation}
use Rattle.std.proofs.lemmas.List.Sorted.{IsPermutation-append_left, IsPermutation-append_right, IsPermutation-append_comm}
use Rattle.std.proofs.lemmas.List.Sums.{AllPass-from_list_all, list_all-from_AllPass}
use Rattle.mv_design.specs.ByLine.{before_line, from_line, by_line}

-- those before a line, and the others
before_and_from : {X : Type 0} (line : X → ℕ) (at : ℕ) (ys : List X) → before_line line at ys ++ from_line line at ys ≡ ys
before_and_from line at [] = refl
before_and_from line at (y ∷ ys) = split (nat_lt (line y) at) (before_and_from line at ys)
  where
    split : (b : Bool) → before_line line at ys ++ from_line line at ys ≡ ys
        → (if b then y ∷ before_line line at ys else []) ++ (if b then from_line line at ys else y ∷ ys) ≡ y ∷ ys
    split true e = ap (λ zs. y ∷ zs) e
    split false e = refl

-- where none stands before the line, all are the others
pub none_before : {X : Type 0} (line : X → ℕ) (at : ℕ) (ys : List X) → nat_lt 0 (length (before_line line at ys)) ≡ false → from_line line at ys ≡ ys
none_before line at [] h = refl
none_before line at (y ∷ ys) h = split (nat_lt (line y) at) h
  where
    split : (b : Bool) → nat_lt 0 (length (if b then y ∷ before_line line at ys else [])) ≡ false → (if b then from_line line at ys else y ∷ ys) ≡ y ∷ ys
    split true e = absurd (false≢true (sym e ∙ lt-ltb 0 (length (y ∷ before_line line at ys)) (omega arith)))
    split false e = refl

-- one element of the first list more, behind those that stand before it
pub next_by_line : {X : Type 0} (line : X → ℕ) (done moved pushed rest left : List X) (x : X) (xs : List X) → moved ≡ done ++ before_line line (line x) rest
    → left ≡ from_line line (line x) rest → pushed ≡ moved ++ x ∷ []
    → pushed ++ by_line line xs left ≡ done ++ by_line line (x ∷ xs) rest
next_by_line line done moved pushed rest left x xs m l p =
    ap (λ zs. zs ++ by_line line xs left) (p ∙ ap (λ zs. zs ++ x ∷ []) m)
    ∙ (ap (λ zs. ((done ++ before_line line (line x) rest) ++ x ∷ []) ++ by_line line xs zs) l ∙ simp append_assoc)

-- lists side by side in another order
pub moved_behind : {Y : Type 0} (a b c : List Y) → IsPermutation (a ++ (b ++ c)) (b ++ (a ++ c))
moved_behind a b c = simp append_assoc at (IsPermutation-append_left c (a ++ b) (b ++ a) (IsPermutation-append_comm a b))

moved : {Y : Type 0} (a b c d r : List Y) → IsPermutation (a ++ d) r → IsPermutation ((b ++ a) ++ (c ++ d)) (c ++ (b ++ r))
moved a b c d r p =
    IsPermutation-trans _ (c ++ ((b ++ a) ++ d)) _ (moved_behind (b ++ a) c d)
    (IsPermutation-append_right c ((b ++ a) ++ d) (b ++ r) (rw (append_assoc b a d) (IsPermutation-append_right b (a ++ d) r p)))

-- what is made of the elements is that which is made of both lists, in another order
pub flat-by_line : {X Y : Type 0} (f : X → List Y) (line : X → ℕ) (xs ys : List X)
    → IsPermutation (flat_map f xs ++ flat_map f ys) (flat_map f (by_line line xs ys))
flat-by_line f line [] ys = IsPermutation-refl (flat_map f ys)
flat-by_line f line (x ∷ xs) ys =
    let b = before_line line (line x) ys in
    let d = from_line line (line x) ys in
    let r = by_line line xs d in
    let e : flat_map f ys ≡ flat_map f b ++ flat_map f d = ap (flat_map f) (sym (before_and_from line (line x) ys)) ∙ flat_map-append f b d in
    rw (e, flat_map-append f b (x ∷ r)) (moved (flat_map f xs) (f x) (flat_map f b) (flat_map f d) (flat_map f r) (flat-by_line f line xs d))

singly : {X : Type 0} (xs : List X) → flat_map (λ (x : X). x ∷ []) xs ≡ xs
singly xs = flat_map_single (λ x. x) xs ∙ map-id xs

by_line-permutes : {X : Type 0} (line : X → ℕ) (xs ys : List X) → IsPermutation (xs ++ ys) (by_line line xs ys)
by_line-permutes {X} line xs ys = simp singly at (flat-by_line (λ (x : X). x ∷ []) line xs ys)

-- what holds of the elements of both lists holds of all
pub All-by_line : {X : Type 0} (P : X → Type 0) (line : X → ℕ) (xs ys : List X) → All P xs → All P ys → All P (by_line line xs ys)
All-by_line P line xs ys a b = All-permutation P (xs ++ ys) (by_line line xs ys) (by_line-permutes line xs ys) (All-append P xs ys a b)

all_permuted : {X : Type 0} (p : X → Bool) (xs ys : List X) → IsPermutation xs ys → list_all p xs ≡ true → list_all p ys ≡ true
all_permuted p xs ys e h = list_all-from_AllPass p ys (All-permutation (λ x. p x ≡ true) xs ys e (AllPass-from_list_all p xs h))

-- all pass a test where those of both lists do
pub all-by_line : {X : Type 0} (p : X → Bool) (line : X → ℕ) (xs ys : List X) → list_all p (by_line line xs ys) ≡ (list_all p xs && list_all p ys)
all-by_line p line xs ys =
    let e = by_line-permutes line xs ys in
    same_from_decides (list_all p (by_line line xs ys)) (list_all p (xs ++ ys))
    (all_permuted p _ (xs ++ ys) (IsPermutation-sym _ _ e), all_permuted p (xs ++ ys) _ e) ((λ h. h), (λ h. h))
    ∙ list_all-append p xs ys
