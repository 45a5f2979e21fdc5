-- Lists that stand at the front of longer ones.
use Rattle.std.proofs.Common.{◌≡◌, ◌∙◌, ℕ, ◌<◌, ◌≤◌, List, [], ◌∷◌, ◌++◌, length, take, refl, sym, ap, arith}
use Rattle.std.proofs.lemmas.List.{take_at, take_all, take-take, length-take, length-take-le, get_or-take, ext_get_or, length_push}
use Rattle.mv_base.specs.declared.number.NetId.{NetId}
use Rattle.mv_dag.specs.Ordered.{at, IsOrdered}

pub front-same : {X : Type 0} (xs new : List X) → new ≡ xs → take (length xs) new ≡ xs
front-same xs new e = ap (take (length xs)) e ∙ take_all (length xs) xs (omega arith)

pub front-more : {X : Type 0} (xs ys new : List X) → new ≡ xs ++ ys → take (length xs) new ≡ xs
front-more xs ys new e = ap (take (length xs)) e ∙ take_at xs ys (length xs) refl

-- a list that stands at the front of another is no longer
front-short : {X : Type 0} (xs ys : List X) → take (length xs) ys ≡ xs → length xs ≤ length ys
front-short xs ys e = let a = length-take (length xs) ys in let b = ap length e in omega arith

pub front-then : {X : Type 0} (xs ys zs : List X) → take (length xs) ys ≡ xs → take (length ys) zs ≡ ys → take (length xs) zs ≡ xs
front-then xs ys zs e f = sym (take-take (length xs) (length ys) zs (front-short xs ys e)) ∙ (ap (take (length xs)) f ∙ e)

-- the labels that there were before one more
pub labels-front : (fanins : List (List NetId)) (old new : List ℕ) → IsOrdered fanins old → IsOrdered (fanins ++ [] ∷ []) new → ((m : ℕ) → m < length fanins → at new m ≡ at old m) → take (length old) new ≡ old
labels-front fanins old new o p kept =
    let a = o.long in
    let b = p.long in
    let c = length_push fanins [] in
    let long : length (take (length old) new) ≡ length old = length-take-le (length old) new (omega arith) in
    ext_get_or 0 (take (length old) new) old long (λ i lt. get_or-take (length old) new i 0 (omega arith) ∙ kept i (omega arith))
