-- A literal is put where its variable belongs.
use Rattle.std.proofs.Common.{◌≡◌, ◌∙◌, ℕ, suc, ◌+◌, ◌<◌, ◌≤◌, true, false, nat_lt, cond, List, [], ◌∷◌, length, get_or, drop, drop-cons, add-one, refl, sym, ap, ⊎_elim}
use Rattle.std.specs.List.{insert}
use Rattle.std.proofs.lemmas.List.{drop_all}
use Rattle.std.proofs.lemmas.Bool.{cases_Bool, le-ltb, lt-ltb}
use Rattle.mv_diagram.specs.declared.cube.Literal.{Literal}
use Rattle.mv_relation.specs.Placing.{place_of, placed}

place_head : (var : ℕ) (l : Literal) (ls : List Literal) → nat_lt l.var var ≡ false → place_of var (l ∷ ls) ≡ 0
place_head var l ls e = λ i. cond (e i) (place_of var ls + 1) 0

place_tail : (var : ℕ) (l : Literal) (ls : List Literal) → nat_lt l.var var ≡ true → place_of var (l ∷ ls) ≡ place_of var ls + 1
place_tail var l ls e = λ i. cond (e i) (place_of var ls + 1) 0

-- the search ends at a literal whose variable isn't below
pub place_here : (var : ℕ) (ls : List Literal) (i : ℕ) (d : Literal) → i < length ls → var ≤ (get_or ls i d).var → place_of var (drop i ls) ≡ 0
place_here var ls i d low above =
    ap (place_of var) (drop-cons ls i d low) ∙ place_head var (get_or ls i d) (drop (suc i) ls) (le-ltb (get_or ls i d).var var above)

-- and goes on at one whose variable is
pub place_next : (var : ℕ) (ls : List Literal) (i : ℕ) (d : Literal) → i < length ls → (get_or ls i d).var < var → place_of var (drop i ls) ≡ place_of var (drop (i + 1) ls) + 1
place_next var ls i d low below =
    ap (place_of var) (drop-cons ls i d low) ∙ place_tail var (get_or ls i d) (drop (suc i) ls) (lt-ltb (get_or ls i d).var var below)
    ∙ ap (λ n. place_of var (drop n ls) + 1) (sym (add-one i))

pub place_end : (var : ℕ) (ls : List Literal) (i : ℕ) → length ls ≤ i → place_of var (drop i ls) ≡ 0
place_end var ls i past = ap (place_of var) (drop_all i ls past)

pub ruleset placing = (place_here, place_next, place_end)

pub insert_placed : (x : Literal) (ls : List Literal) → insert ls (place_of x.var ls) x ≡ placed x ls
insert_placed x [] = refl
insert_placed x (l ∷ ls) =
    ⊎_elim
    (λ (y : nat_lt l.var x.var ≡ true).
    ap (λ n. insert (l ∷ ls) n x) (place_tail x.var l ls y ∙ add-one (place_of x.var ls))
    ∙ ap (λ t. l ∷ t) (insert_placed x ls)
    ∙ sym (λ i. cond (y i) (l ∷ placed x ls) (x ∷ l ∷ ls)))
    (λ (o : nat_lt l.var x.var ≡ false).
    ap (λ n. insert (l ∷ ls) n x) (place_head x.var l ls o)
    ∙ sym (λ i. cond (o i) (l ∷ placed x ls) (x ∷ l ∷ ls)))
    (cases_Bool (nat_lt l.var x.var))
