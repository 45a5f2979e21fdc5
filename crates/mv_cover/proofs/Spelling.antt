-- A cover whose default is spelled out allows the same values.
use Rattle.std.proofs.Common.{◌≡◌, ◌∙◌, ℕ, Bool, true, false, not, ◌&&◌, ◌||◌, Option, Some, None, List, [], ◌∷◌, ◌++◌, refl, sym, ap, subst, append-nil, All}
use Rattle.std.proofs.lemmas.List.Elements.{All-nil, All-cons, All-append, All-head, All-tail}
use Rattle.mv_base.specs.Set.{has}
use Rattle.mv_cover.specs.Literal.{Lit}
use Rattle.mv_cover.specs.declared.line.Line.{Line}
use Rattle.mv_cover.specs.declared.cover.Cover.{Cover}
use Rattle.mv_cover.specs.Cubes.{matches}
use Rattle.mv_cover.specs.Covers.{some_matches, some_gives, default_gives, allowed}
use Rattle.mv_cover.specs.Covering.{IsPoint}
use Rattle.mv_cover.specs.Cofactors.{cubes_match}
use Rattle.mv_cover.specs.Sharp.{Suits, IsCubeOver}
use Rattle.mv_cover.specs.Complement.{LinesSuit, complement_of, lines_for, default_lines, spelled_of, AllowSame}
use Rattle.mv_cover.proofs.Points.{some_gives-append}

-- one of two that give the same
either_gives : (m c g r : Bool) → r ≡ (c && g) → ((m && g) || r) ≡ ((m || c) && g)
either_gives true c true r e = refl
either_gives true true false r e = e
either_gives true false false r e = e
either_gives false c g r e = e

-- lines of one output give it where a cube holds
pub gives-lines_for : (at : ℕ → ℕ) (v out : ℕ) (cs : List (List Lit)) → some_gives at v (lines_for out cs) ≡ (cubes_match at cs && has out v)
gives-lines_for at v out [] = refl
gives-lines_for at v out (c ∷ cs) = either_gives (matches at c) (cubes_match at cs) (has out v) (some_gives at v (lines_for out cs)) (gives-lines_for at v out cs)

-- without a default nothing is added
or_none : (a b : Bool) → (a || (b && false)) ≡ a
or_none true b = refl
or_none false true = refl
or_none false false = refl

-- without a default a cover allows what its lines give
allowed_lines : (lines : List Line) (at : ℕ → ℕ) (v : ℕ) → allowed (record { lines = lines; default = None }) at v ≡ some_gives at v lines
unfolding allowed
allowed_lines lines at v = or_none (some_gives at v lines) (not (some_matches at lines))

-- the default's lines add what the default allowed
allows-spelled : (counts : List ℕ) (lines : List Line) (default : Option ℕ) (at : ℕ → ℕ) (v : ℕ) → cubes_match at (complement_of counts lines) ≡ not (some_matches at lines) → some_gives at v (lines ++ default_lines counts lines default) ≡ (some_gives at v lines || (not (some_matches at lines) && default_gives default v))
allows-spelled counts lines None at v e = ap (some_gives at v) (append-nil lines) ∙ sym (or_none (some_gives at v lines) (not (some_matches at lines)))
allows-spelled counts lines (Some out) at v e =
    some_gives-append at v lines (lines_for out (complement_of counts lines)) ∙ ap (λ b. some_gives at v lines || b) (gives-lines_for at v out (complement_of counts lines) ∙ ap (λ b. b && has out v) e)

-- the complement's cubes hold where no line does
pub record ComplementHolds (counts : List ℕ) (lines : List Line) : Type 0 where
  pub points : (at : ℕ → ℕ) → IsPoint counts at → cubes_match at (complement_of counts lines) ≡ not (some_matches at lines)

-- the cover spelled out allows the same values
pub same-spelled : (counts : List ℕ) (c : Cover) → ComplementHolds counts c.lines → AllowSame counts (spelled_of counts c) c
unfolding spelled_of allowed
same-spelled counts c is = record {
  same = λ at p v. allowed_lines (c.lines ++ default_lines counts c.lines c.default) at v ∙ allows-spelled counts c.lines c.default at v (is.points at p);
}

-- a cover without a default is what is spelled out
pub spelled-none : (counts : List ℕ) (c : Cover) → c.default ≡ None → c ≡ spelled_of counts c
unfolding spelled_of
spelled-none counts c e =
    λ i. record { lines = (sym (append-nil c.lines) ∙ ap (λ o. c.lines ++ default_lines counts c.lines o) (sym e)) i; default = e i }

-- else the lines of the default's cubes stand behind the others
pub spelled-some : (counts : List ℕ) (c : Cover) (lines now : List Line) (cubes : List (List Lit)) (out : ℕ) → c.default ≡ Some out → lines ≡ c.lines → cubes ≡ complement_of counts c.lines → now ≡ lines ++ lines_for out cubes → record { lines = now; default = None } ≡ spelled_of counts c
unfolding spelled_of
spelled-some counts c lines now cubes out e f g put =
    let all : now ≡ c.lines ++ default_lines counts c.lines c.default = put ∙ ((λ i. f i ++ lines_for out (g i)) ∙ ap (λ o. c.lines ++ default_lines counts c.lines o) (sym e)) in
    λ i. record { lines = all i; default = None }

-- lines of cubes that suit the counts do
suits-lines_for : (counts : List ℕ) (out : ℕ) (cs : List (List Lit)) → All (IsCubeOver counts) cs → LinesSuit counts (lines_for out cs)
suits-lines_for counts out [] are = All-nil (λ (l : Line). Suits counts l.cube)
suits-lines_for counts out (c ∷ cs) are =
    All-cons (λ (l : Line). Suits counts l.cube) (record { cube = c; out = out }) (lines_for out cs) (All-head (IsCubeOver counts) c cs are).suits
    (suits-lines_for counts out cs (All-tail (IsCubeOver counts) c cs are))

-- the lines put behind suit the counts as the others do
pub suits-spelled : (counts : List ℕ) (old lines now : List Line) (cubes : List (List Lit)) (out : ℕ) → lines ≡ old → now ≡ lines ++ lines_for out cubes → LinesSuit counts old → All (IsCubeOver counts) cubes → LinesSuit counts now
suits-spelled counts old lines now cubes out f put suit are =
    subst (λ (x : List Line). LinesSuit counts x) (sym (put ∙ ap (λ x. x ++ lines_for out cubes) f))
    (All-append (λ (l : Line). Suits counts l.cube) old (lines_for out cubes) suit (suits-lines_for counts out cubes are))

-- the cover that was made allows the same values
pub same-made : (counts : List ℕ) (c made : Cover) (cubes : List (List Lit)) → made ≡ spelled_of counts c → cubes ≡ complement_of counts c.lines → ((at : ℕ → ℕ) → IsPoint counts at → cubes_match at cubes ≡ not (some_matches at c.lines)) → AllowSame counts made c
same-made counts c made cubes e f points =
    subst (λ (x : Cover). AllowSame counts x c) (sym e) (same-spelled counts c (record { points = λ at p. ap (cubes_match at) (sym f) ∙ points at p }))
