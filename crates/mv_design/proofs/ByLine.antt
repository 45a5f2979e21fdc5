-- Two lists in one, by line: its elements are those of both.
use Rattle.std.proofs.Common.{◌≡◌, ℕ, ◌+◌, ◌<◌, ◌≤◌, Bool, true, false, ◌||◌, List, [], ◌∷◌, ◌++◌, length, get_or, take, drop, refl, sym, ◌∙◌, ap, arith}
use Rattle.std.specs.Prelude.{nat_lt, if◌then◌else◌}
use Rattle.std.specs.List.{list_any}
use Rattle.std.proofs.Math.Seq.{drop-append_seam}
use Rattle.std.proofs.lemmas.List.{append-nil, append_assoc, drop-drop, drop_more, length-append, take_more}
use Rattle.std.proofs.lemmas.List.Folds.{list_any-append}
use Rattle.mv_design.specs.ByLine.{before_line, from_line, by_line}

-- those before a line, and the others, make up the list
pub before_from : {X : Type 0} (line : X → ℕ) (at : ℕ) (ys : List X) → before_line line at ys ++ from_line line at ys ≡ ys
before_from line at [] = refl
before_from {X} line at (y ∷ ys) = split (nat_lt (line y) at) (before_from line at ys)
  where
    split : (b : Bool) → before_line line at ys ++ from_line line at ys ≡ ys
        → (if b then y ∷ before_line line at ys else []) ++ (if b then from_line line at ys else y ∷ ys) ≡ y ∷ ys
    split true e = ap (λ zs. y ∷ zs) e
    split false e = refl

-- one more at the front of a list stands before the line, or none does
pub before_more : {X : Type 0} (line : X → ℕ) (at : ℕ) (xs : List X) (i : ℕ) (d : X) → i < length xs → nat_lt (line (get_or xs i d)) at ≡ true
    → take i xs ++ before_line line at (drop i xs) ≡ take (i + 1) xs ++ before_line line at (drop (i + 1) xs)
before_more line at xs i d lt e =
    let rest = drop (i + 1) xs in
    ap (λ ys. take i xs ++ before_line line at ys) (drop_more xs i d lt)
    ∙ (ap (λ b. take i xs ++ (if b then get_or xs i d ∷ before_line line at rest else [])) e
    ∙ (sym (append_assoc (take i xs) (get_or xs i d ∷ []) (before_line line at rest)) ∙ ap (λ ys. ys ++ before_line line at rest) (sym (take_more xs i d lt))))

pub before_stop : {X : Type 0} (line : X → ℕ) (at : ℕ) (xs : List X) (i : ℕ) (d : X) → i < length xs → nat_lt (line (get_or xs i d)) at ≡ false
    → take i xs ++ before_line line at (drop i xs) ≡ take i xs
before_stop line at xs i d lt e =
    ap (λ ys. take i xs ++ before_line line at ys) (drop_more xs i d lt)
    ∙ (ap (λ b. take i xs ++ (if b then get_or xs i d ∷ before_line line at (drop (i + 1) xs) else [])) e ∙ append-nil (take i xs))

pub ruleset front = (before_more, before_stop)

-- behind those before the line stand the others
pub drop_before : {X : Type 0} (line : X → ℕ) (at : ℕ) (xs : List X) (done : ℕ)
    → drop (done + length (before_line line at (drop done xs))) xs ≡ from_line line at (drop done xs)
drop_before line at xs done =
    let front = before_line line at (drop done xs) in
    let behind = from_line line at (drop done xs) in
    sym (drop-drop (length front) done xs) ∙ (ap (drop (length front)) (sym (before_from line at (drop done xs))) ∙ drop-append_seam front behind)

-- they are no more than stand there
pub few_before : {X : Type 0} (line : X → ℕ) (at : ℕ) (ys : List X) → length (before_line line at ys) ≤ length ys
few_before line at ys =
    let e = length-append (before_line line at ys) (from_line line at ys) in
    let f = ap length (before_from line at ys) in
    omega arith

-- one more of the first list stands behind those of the second before its line
pub merge_more : {X : Type 0} (line : X → ℕ) (all xs ys : List X) (i done : ℕ) (x : X) → i < length xs → x ≡ get_or xs i x
    → all ++ by_line line (drop i xs) (drop done ys)
    ≡ ((all ++ before_line line (line x) (drop done ys)) ++ x ∷ []) ++ by_line line (drop (i + 1) xs) (drop (done + length (before_line line (line x) (drop done ys))) ys)
merge_more line all xs ys i done x lt is =
    let front = before_line line (line x) (drop done ys) in
    let behind = from_line line (line x) (drop done ys) in
    let rest = drop (i + 1) xs in
    ap (λ zs. all ++ by_line line zs (drop done ys)) (drop_more xs i x lt ∙ ap (λ y. y ∷ rest) (sym is))
    ∙ (sym (append_assoc all front (x ∷ by_line line rest behind))
    ∙ (sym (append_assoc (all ++ front) (x ∷ []) (by_line line rest behind))
    ∙ ap (λ zs. ((all ++ front) ++ x ∷ []) ++ by_line line rest zs) (sym (drop_before line (line x) ys done))))

moved : (a b c d : Bool) → (a || (b || (c || d))) ≡ ((b || c) || (a || d))
moved true true c d = refl
moved true false true d = refl
moved true false false d = refl
moved false true c d = refl
moved false false c d = refl

-- an element passes a test where one of either list does
pub any-by_line : {X : Type 0} (line : X → ℕ) (p : X → Bool) (xs ys : List X) → list_any p (by_line line xs ys) ≡ (list_any p xs || list_any p ys)
any-by_line line p [] ys = refl
any-by_line line p (x ∷ xs) ys =
    let front = before_line line (line x) ys in
    let behind = from_line line (line x) ys in
    list_any-append p front (x ∷ by_line line xs behind)
    ∙ (ap (λ b. list_any p front || (p x || b)) (any-by_line line p xs behind)
    ∙ (moved (list_any p front) (p x) (list_any p xs) (list_any p behind)
    ∙ ap (λ b. (p x || list_any p xs) || b) (sym (list_any-append p front behind) ∙ ap (list_any p) (before_from line (line x) ys))))
