-- In the covers of a table of distinct lines each cube stands once.
use Rattle.std.proofs.Common.{◌≡◌, ◌∙◌, ℕ, true, false, not, List, [], ◌∷◌, filter, map, All, Contains, sym, subst, nat_eq}
use Rattle.std.proofs.lemmas.Bool.{false≢true, and_parts, not-true, cond_both, eqb-true, false_from_ne_true}
use Rattle.std.proofs.lemmas.List.Elements.{All-weaker, All-contains_itself, recursion_from_All}
use Rattle.std.proofs.lemmas.Map.Keys.{IsDistinct-cons}
use Rattle.std.proofs.lemmas.Map.Views.{list_any-from_Contains}
use Rattle.std.specs.List.{list_any, IsDistinct}
use Rattle.mv_cover.specs.Literal.{Lit}
use Rattle.mv_cover.specs.Lines.{lines_differ}
use Rattle.mv_cover.specs.Equal.{cube_eq, line_eq}
use Rattle.mv_cover.specs.Keys.{same_line, cube_eq-Decides, line_eq-equiv}
use Rattle.mv_cover.specs.declared.line.Line.{Line}
use Rattle.mv_kernels.proofs.Lists.{Contains-from_map, Contains-from_filter}
use Rattle.mv_divide.specs.declared.part.Part.{Part}
use Rattle.mv_divide.specs.Tables.{outputs, cover_of, parts_of}

-- no cube behind a line's, with the same output set, is equal to the line's
first_differs : (l : Line) (lines : List Line) (out : ℕ) (cube : List Lit) → list_any (line_eq l) lines ≡ false → l.out ≡ out → Contains (cover_of lines out) cube → cube_eq l.cube cube ≡ false
first_differs l lines out cube none here i =
    false_from_ne_true (cube_eq l.cube cube) (λ t.
    let m = Contains-from_map (λ (x : Line). x.cube) (filter (λ (x : Line). nat_eq x.out out) lines) cube i in
    let f = Contains-from_filter (λ (x : Line). nat_eq x.out out) lines m.0 m.1 in
    let same : l ≡ m.0 = same_line l m.0 ((cube_eq-Decides l.cube cube).0 t ∙ m.2) (here ∙ sym (eqb-true m.0.out out f.1)) in
    let there : Contains lines l = subst (λ (x : Line). Contains lines x) (sym same) f.0 in
    false≢true (sym none ∙ list_any-from_Contains {eq = line_eq} line_eq-equiv l lines there))

cover_once : (lines : List Line) (out : ℕ) → lines_differ lines ≡ true → IsDistinct cube_eq (cover_of lines out)
unfolding IsDistinct
cover_once [] out h = tt
cover_once (l ∷ lines) out h =
    let both = and_parts (not (list_any (line_eq l) lines)) (lines_differ lines) h in
    let rest = cover_once lines out both.1 in
    let none = not-true (list_any (line_eq l) lines) both.0 in
    let others = filter (λ (x : Line). nat_eq x.out out) lines in
    cond_both (nat_eq l.out out) (l ∷ others) others (λ (xs : List Line). IsDistinct cube_eq (map (λ (x : Line). x.cube) xs))
    (λ t.
    IsDistinct-cons cube_eq l.cube (cover_of lines out)
    (recursion_from_All (λ (y : List Lit). cube_eq l.cube y ≡ false) (cover_of lines out)
    (All-weaker (Contains (cover_of lines out)) (λ (y : List Lit). cube_eq l.cube y ≡ false)
    (λ y i. first_differs l lines out y none (eqb-true l.out out t) i) (cover_of lines out) (All-contains_itself (cover_of lines out)))) rest)
    (λ _. rest)

pub covers_once : (lines : List Line) → lines_differ lines ≡ true → All (λ (p : Part). IsDistinct cube_eq p.cover) (parts_of lines)
covers_once lines h =
    All-weaker (Contains (parts_of lines)) (λ (p : Part). IsDistinct cube_eq p.cover)
    (λ p i.
    let m = Contains-from_map (λ (out : ℕ). record { out = out; cover = cover_of lines out }) (outputs lines) p i in
    subst (λ (x : Part). IsDistinct cube_eq x.cover) (sym m.2) (cover_once lines m.0 h)) (parts_of lines) (All-contains_itself (parts_of lines))
