-- What the literals of a line ask of a point.
use Rattle.std.proofs.Common.{◌≡◌, ◌∙◌, ℕ, ◌&&◌, ◌||◌, Bool, true, false, nat_lt, cond, List, [], ◌∷◌, refl, ap, ⊎_elim}
use Rattle.std.proofs.lemmas.Bool.{cases_Bool}
use Rattle.mv_base.specs.Set.{has}
use Rattle.mv_cover.specs.Literal.{Lit}
use Rattle.mv_cover.specs.declared.line.Line.{Line}
use Rattle.mv_cover.specs.Cubes.{matches}
use Rattle.mv_cover.specs.Covers.{some_gives, some_matches}
use Rattle.mv_diagram.specs.declared.cube.Literal.{Literal}
use Rattle.mv_diagram.specs.Sets.{Point}
use Rattle.mv_diagram.specs.Cubes.{in_cube}
use Rattle.mv_relation.specs.Relations.{assigned}
use Rattle.mv_relation.specs.Placing.{all_placed, line_holds, line_literals, literal_of, own_literals, placed, some_holds}

and_swap : (a b c : Bool) → (a && (b && c)) ≡ (b && (a && c))
and_swap true true c = refl
and_swap true false c = refl
and_swap false true c = refl
and_swap false false c = refl

and_turn : (a b c : Bool) → (a && (b && c)) ≡ ((b && a) && c)
and_turn true true c = refl
and_turn true false c = refl
and_turn false true c = refl
and_turn false false c = refl

and_true : (a : Bool) → (a && true) ≡ a
and_true true = refl
and_true false = refl

and_other : (a b : Bool) → (a && b) ≡ (b && a)
and_other true true = refl
and_other true false = refl
and_other false true = refl
and_other false false = refl

in_placed : (x : Literal) (ls : List Literal) (p : Point) → in_cube (placed x ls) p ≡ (has x.set (p x.var) && in_cube ls p)
in_placed x [] p = refl
in_placed x (l ∷ ls) p =
    ⊎_elim
    (λ (y : nat_lt l.var x.var ≡ true).
    (λ i. in_cube (cond (y i) (l ∷ placed x ls) (x ∷ l ∷ ls)) p)
    ∙ ap (λ b. has l.set (p l.var) && b) (in_placed x ls p)
    ∙ and_swap (has l.set (p l.var)) (has x.set (p x.var)) (in_cube ls p))
    (λ (o : nat_lt l.var x.var ≡ false). (λ i. in_cube (cond (o i) (l ∷ placed x ls) (x ∷ l ∷ ls)) p))
    (cases_Bool (nat_lt l.var x.var))

in_all_placed : (vars : List ℕ) (cs : List Lit) (ls : List Literal) (p : Point) → in_cube (all_placed vars cs ls) p ≡ (matches (assigned vars p) cs && in_cube ls p)
in_all_placed vars [] ls p = refl
in_all_placed vars (c ∷ cs) ls p =
    in_all_placed vars cs (placed (literal_of vars c) ls) p
    ∙ ap (λ b. matches (assigned vars p) cs && b) (in_placed (literal_of vars c) ls p)
    ∙ and_turn (matches (assigned vars p) cs) (has c.set (assigned vars p c.net.0)) (in_cube ls p)

own_holds : (vars : List ℕ) (own : ℕ) (gives : Bool) (out : ℕ) (p : Point) → in_cube (own_literals gives own out) p ≡ cond gives (has out (p own)) true
own_holds vars own true out p = and_true (has out (p own))
own_holds vars own false out p = refl

-- they ask what the line says
pub in_line : (vars : List ℕ) (own : ℕ) (gives : Bool) (l : Line) (p : Point) → in_cube (line_literals vars own gives l) p ≡ line_holds vars own gives p l
in_line vars own gives l p =
    in_all_placed vars l.cube (own_literals gives own l.out) p
    ∙ ap (λ b. matches (assigned vars p) l.cube && b) (own_holds vars own gives l.out p)
    ∙ and_other (matches (assigned vars p) l.cube) (cond gives (has l.out (p own)) true)

-- some line gives the value, or matches
pub holds-gives : (vars : List ℕ) (own : ℕ) (p : Point) (ls : List Line) → some_holds vars own true p ls ≡ some_gives (assigned vars p) (p own) ls
holds-gives vars own p [] = refl
holds-gives vars own p (l ∷ ls) = λ i.
    and_other (has l.out (p own)) (matches (assigned vars p) l.cube) i || holds-gives vars own p ls i

pub holds-matches : (vars : List ℕ) (own : ℕ) (p : Point) (ls : List Line) → some_holds vars own false p ls ≡ some_matches (assigned vars p) ls
holds-matches vars own p [] = refl
holds-matches vars own p (l ∷ ls) = λ i. matches (assigned vars p) l.cube || holds-matches vars own p ls i
