-- A table made deterministic is a cover over the counts of the nets' values: no line stands twice in it, nor a default beside a line
-- without literals.
use Rattle.std.proofs.Common.{◌≡◌, ◌∙◌, ℕ, ◌+◌, ◌≤◌, Bool, true, false, not, ◌&&◌, ◌||◌, nat_eq, Option, Some, None, List, [], ◌∷◌, ◌++◌, length, inl, inr, refl, sym, ap, subst, arith}
use Rattle.std.specs.List.{list_any}
use Rattle.std.proofs.lemmas.Bool.{false≢true, and_parts, and_from, false_from_ne_true, not_from_false, or_cases, or_left, or_right}
use Rattle.std.proofs.lemmas.Option.{same_Some}
use Rattle.mv_base.specs.Set.{one}
use Rattle.mv_base.specs.declared.limits.TheConstants.{MAX_VALUES}
use Rattle.mv_cover.specs.Absorb.{some_bare}
use Rattle.mv_cover.specs.Cofactors.{cubes_of}
use Rattle.mv_cover.specs.Complement.{lines_for}
use Rattle.mv_cover.specs.Covering.{IsPoint}
use Rattle.mv_cover.specs.Covers.{some_matches}
use Rattle.mv_cover.specs.Cubes.{matches}
use Rattle.mv_cover.specs.Equal.{line_eq}
use Rattle.mv_cover.specs.Keys.{line_eq-Decides}
use Rattle.mv_cover.specs.Lines.{IsOutput, lines_differ}
use Rattle.mv_cover.specs.Literal.{Lit}
use Rattle.mv_cover.specs.declared.cover.Cover.{Cover}
use Rattle.mv_cover.specs.declared.line.Line.{Line}
use Rattle.mv_cover.proofs.Absorbing.{bare-matches}
use Rattle.mv_cover.proofs.Points.{some_matches-append}
use Rattle.mv_cover.proofs.Sharps.{HoldOnce, held, held-append, one_if, one_if-most}
use Rattle.mv_composite.specs.Inside.{AreCubesOver, IsCoverOver}
use Rattle.mv_determine.specs.Determined.{cubes_outside, determined_from, determined_of, least_default, least_of, lines_behind}
use Rattle.mv_determine.proofs.Least.{least_below, one_output}
use Rattle.mv_determine.proofs.Outside.{held_outside, holds_everywhere, holds_somewhere, over_head, over_more, over_none, over_tail}
use Rattle.mv_determine.proofs.Following.{behind_matches, determined_outputs, determined_over}

-- ---- no line stands twice

cubes_append : (xs ys : List Line) → cubes_of (xs ++ ys) ≡ cubes_of xs ++ cubes_of ys
cubes_append [] ys = refl
cubes_append (x ∷ xs) ys = ap (λ cs. x.cube ∷ cs) (cubes_append xs ys)

cubes_for : (out : ℕ) (cs : List (List Lit)) → cubes_of (lines_for out cs) ≡ cs
cubes_for out [] = refl
cubes_for out (c ∷ cs) = ap (λ ds. c ∷ ds) (cubes_for out cs)

both_held : (m s e : Bool) → one_if (m && not e) + one_if (s && not (e || (m || false))) ≡ one_if ((m || s) && not e)
both_held true true true = omega arith
both_held true true false = omega arith
both_held true false true = omega arith
both_held true false false = omega arith
both_held false true true = omega arith
both_held false true false = omega arith
both_held false false true = omega arith
both_held false false false = omega arith

determined_held : (counts : List ℕ) (at : ℕ → ℕ) → IsPoint counts at → (earlier ls : List Line) → AreCubesOver counts earlier → AreCubesOver counts ls
    → held at (cubes_of (determined_from counts earlier ls)) ≡ one_if (some_matches at ls && not (some_matches at earlier))
determined_held counts at point earlier [] before over = refl
determined_held counts at point earlier (l ∷ ls) before over =
    let first = lines_behind counts earlier l in
    let rest = determined_from counts (earlier ++ l ∷ []) ls in
    let here : held at (cubes_of first) ≡ one_if (matches at l.cube && not (some_matches at earlier)) =
    ap (held at) (cubes_for (one (least_of l.out)) (cubes_outside counts earlier l.cube)) ∙ held_outside counts earlier l.cube before (over_head counts l ls over) at point in
    let there : held at (cubes_of rest) ≡ one_if (some_matches at ls && not (some_matches at earlier || (matches at l.cube || false))) =
    determined_held counts at point (earlier ++ l ∷ []) ls (over_more counts earlier l ls before over) (over_tail counts l ls over)
    ∙ ap (λ b. one_if (some_matches at ls && not b)) (some_matches-append at earlier (l ∷ [])) in
    ap (held at) (cubes_append first rest)
    ∙ (held-append at (cubes_of first) (cubes_of rest)
    ∙ ((λ i. here i + there i) ∙ both_held (matches at l.cube) (some_matches at ls) (some_matches at earlier)))

-- a line that is equal to one of others holds where one of them does
equal_holds : (at : ℕ → ℕ) (l : Line) (ks : List Line) → list_any (line_eq l) ks ≡ true → matches at l.cube ≡ true → 1 ≤ held at (cubes_of ks)
equal_holds at l [] any h = absurd (false≢true any)
equal_holds at l (k ∷ ks) any h =
    elim (or_cases (line_eq l k) (list_any (line_eq l) ks) any) [
      | inl here ↦
          let same = (line_eq-Decides l k).0 here in
          let e = ap one_if (ap (λ (m : Line). matches at m.cube) (sym same) ∙ h) in
          omega (arith, e)
      | inr later ↦ let few = equal_holds at l ks later h in omega (arith, few)
    ]

differ_once : (counts : List ℕ) (ks : List Line) → AreCubesOver counts ks → HoldOnce counts (cubes_of ks) → lines_differ ks ≡ true
differ_once counts [] over once = refl
differ_once counts (k ∷ ks) over once =
    let at = holds_somewhere counts k.cube (over_head counts k ks over) in
    let apart : list_any (line_eq k) ks ≡ false =
    false_from_ne_true (list_any (line_eq k) ks)
    (λ t.
    let more = equal_holds at.at k ks t at.there in
    let most = once.most at.at at.point in
    let e = ap one_if at.there in
    omega (arith, more, most, e))
    in
    and_from (not (list_any (line_eq k) ks)) (lines_differ ks) (not_from_false (list_any (line_eq k) ks) apart)
    (differ_once counts ks (over_tail counts k ks over) (record { most = λ x p. let most = once.most x p in omega (arith, most) }))

-- ---- lines without literals

bare_append : (xs ys : List Line) → some_bare (xs ++ ys) ≡ (some_bare xs || some_bare ys)
bare_append [] ys = refl
bare_append (x ∷ xs) ys = ap (λ b. nat_eq (length x.cube) 0 || b) (bare_append xs ys) ∙ or_first (nat_eq (length x.cube) 0) (some_bare xs) (some_bare ys)
  where
    or_first : (a b c : Bool) → (a || (b || c)) ≡ ((a || b) || c)
    or_first true b c = refl
    or_first false b c = refl

-- such a line comes of one alone
bare_before : (counts : List ℕ) (earlier ls : List Line) → AreCubesOver counts earlier → AreCubesOver counts ls → some_bare (determined_from counts earlier ls) ≡ true → some_bare ls ≡ true
bare_before counts earlier [] before over bare = bare
bare_before counts earlier (l ∷ ls) before over bare =
    elim (or_cases (some_bare (lines_behind counts earlier l)) (some_bare (determined_from counts (earlier ++ l ∷ []) ls)) (sym (bare_append (lines_behind counts earlier l) (determined_from counts (earlier ++ l ∷ []) ls)) ∙ bare)) [
      | inl here ↦
          let is = over_head counts l ls over in
          let all : l.cube ≡ [] =
          holds_everywhere counts l.cube is
          (λ at p. (and_parts (matches at l.cube) (not (some_matches at earlier)) (sym (behind_matches counts at p earlier l before is) ∙ bare-matches at (lines_behind counts earlier l) here)).0)
          in
          or_left (nat_eq (length l.cube) 0) (some_bare ls) (ap (λ c. nat_eq (length c) 0) all)
      | inr later ↦
          or_right (nat_eq (length l.cube) 0) (some_bare ls) (bare_before counts (earlier ++ l ∷ []) ls (over_more counts earlier l ls before over) (over_tail counts l ls over) later)
    ]

-- ---- all of it

default_output : (values : ℕ) → values ≤ MAX_VALUES → (o : Option ℕ) → ((out : ℕ) → o ≡ Some out → IsOutput values out) → (out : ℕ) → least_default o ≡ Some out → IsOutput values out
default_output values few None outs out e = absurd cc
default_output values few (Some set) outs out e =
    subst (IsOutput values) (same_Some (one (least_of set)) out e) (one_output values (least_of set) (least_below values set few (outs set refl)))

pub table_over : (counts : List ℕ) (values : ℕ) (c : Cover) → values ≤ MAX_VALUES → IsCoverOver counts values c → IsCoverOver counts values (determined_of counts c)
table_over counts values c few is =
    let none = over_none counts in
    let new = determined_over counts [] c.lines none is.cubes in
    record {
      cubes = new;
      outputs = determined_outputs counts values few [] c.lines is.outputs;
      differ =
          differ_once counts (determined_from counts [] c.lines) new
          (record {
            most = λ at p.
                let e = determined_held counts at p [] c.lines none is.cubes in
                let most = one_if-most (some_matches at c.lines && not false) in
                omega (arith, e, most);
          });
      default = default_output values few c.default is.default;
      met = λ bare. ap least_default (is.met (bare_before counts [] c.lines none is.cubes bare));
    }
