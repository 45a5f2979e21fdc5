-- A table made deterministic is plainly so: at each point it gives the least value of the first of the old lines that holds.
use Rattle.std.proofs.Common.{◌≡◌, ◌∙◌, ℕ, ◌<◌, Bool, true, false, not, ◌||◌, cond, get_or, Option, Some, None, List, [], ◌∷◌, ◌++◌, length, refl, sym, ap, All}
use Rattle.std.proofs.lemmas.Bool.{false≢true, and_parts, or_left, or_right}
use Rattle.std.proofs.lemmas.List.Elements.{All-nil, All-cons, All-append, All-head, All-map, All-tail}
use Rattle.mv_base.specs.Set.{empty, one}
use Rattle.mv_cover.specs.Cofactors.{cubes_match}
use Rattle.mv_cover.specs.Complement.{lines_for}
use Rattle.mv_cover.specs.Covering.{IsPoint}
use Rattle.mv_cover.specs.Covers.{some_matches}
use Rattle.mv_cover.specs.Cubes.{matches}
use Rattle.mv_cover.specs.Literal.{Lit}
use Rattle.mv_cover.specs.Plain.{GivesOne, IsOneDefault, IsPlainlyDeterministic}
use Rattle.mv_cover.specs.declared.cover.Cover.{Cover}
use Rattle.mv_cover.specs.declared.line.Line.{Line}
use Rattle.mv_cover.proofs.Points.{some_matches-append}
use Rattle.mv_composite.specs.Inside.{AreCubesOver}
use Rattle.mv_determine.specs.Determined.{cubes_outside, determined_from, determined_of, least_default, least_of, lines_behind}
use Rattle.mv_determine.proofs.Least.{one_counts}
use Rattle.mv_determine.proofs.Outside.{outside_matches, over_head, over_more, over_none, over_tail, pinned, pinned_matches, pinned_point}
use Rattle.mv_determine.proofs.Following.{determined_matches, determined_over}

-- ---- one value

single_for : (v : ℕ) (cs : List (List Lit)) → All GivesOne (lines_for (one v) cs)
single_for v cs = All-map GivesOne (λ (c : List Lit). record { cube = c; out = one v }) cs (λ i d low. one_counts v)

-- each line gives one value
determined_single : (counts : List ℕ) (earlier ls : List Line) → All GivesOne (determined_from counts earlier ls)
determined_single counts earlier [] = All-nil GivesOne
determined_single counts earlier (l ∷ ls) =
    All-append GivesOne (lines_behind counts earlier l) (determined_from counts (earlier ++ l ∷ []) ls)
    (single_for (least_of l.out) (cubes_outside counts earlier l.cube))
    (determined_single counts (earlier ++ l ∷ []) ls)

-- and so does the default
default_one : (o : Option ℕ) → IsOneDefault (least_default o)
default_one None = tt
default_one (Some out) = one_counts (least_of out)

-- ---- which line holds

-- what the first line that holds comes to
abbrev first_set : (ℕ → ℕ) → List Line → ℕ
first_set at [] = empty
first_set at (l ∷ ls) = cond (matches at l.cube) (one (least_of l.out)) (first_set at ls)

-- a line that holds gives this
abbrev Gives : (ℕ → ℕ) → ℕ → Line → Type 0
Gives at set k = matches at k.cube ≡ true → k.out ≡ set

for_cubes : (at : ℕ → ℕ) (out set : ℕ) (cs : List (List Lit)) → (cubes_match at cs ≡ true → out ≡ set) → All (Gives at set) (lines_for out cs)
for_cubes at out set [] told = All-nil (Gives at set)
for_cubes at out set (c ∷ cs) told =
    All-cons (Gives at set) (record { cube = c; out = out }) (lines_for out cs) (λ h. told (or_left (matches at c) (cubes_match at cs) h))
    (for_cubes at out set cs (λ h. told (or_right (matches at c) (cubes_match at cs) h)))

-- lines that give one set where they hold, which is another where one of them does
gives_as : (at : ℕ → ℕ) (set other : ℕ) (ks : List Line) → (some_matches at ks ≡ true → set ≡ other) → All (Gives at set) ks → All (Gives at other) ks
gives_as at set other [] same are = All-nil (Gives at other)
gives_as at set other (k ∷ ks) same are =
    All-cons (Gives at other) k ks
    (λ h. All-head (Gives at set) k ks are h ∙ same (or_left (matches at k.cube) (some_matches at ks) h))
    (gives_as at set other ks (λ h. same (or_right (matches at k.cube) (some_matches at ks) h)) (All-tail (Gives at set) k ks are))

not_second : (a b : Bool) → not (a || (b || false)) ≡ true → b ≡ false
not_second true b h = absurd (false≢true h)
not_second false true h = absurd (false≢true h)
not_second false false h = refl

module _ (counts : List ℕ) (at : ℕ → ℕ) (point : IsPoint counts at) where
  first_given : (earlier ls : List Line) → AreCubesOver counts earlier → AreCubesOver counts ls → All (Gives at (first_set at ls)) (determined_from counts earlier ls)
  first_given earlier [] before over = All-nil (Gives at (first_set at []))
  first_given earlier (l ∷ ls) before over =
      let here : cubes_match at (cubes_outside counts earlier l.cube) ≡ true → one (least_of l.out) ≡ first_set at (l ∷ ls) =
      λ h.
      let p = and_parts (matches at l.cube) (not (some_matches at earlier)) (sym (outside_matches counts earlier l.cube before (over_head counts l ls over) at point) ∙ h) in
      sym (ap (λ b. cond b (one (least_of l.out)) (first_set at ls)) p.0)
      in
      let there : some_matches at (determined_from counts (earlier ++ l ∷ []) ls) ≡ true → first_set at ls ≡ first_set at (l ∷ ls) =
      λ h.
      let p = and_parts (some_matches at ls) (not (some_matches at (earlier ++ l ∷ []))) (sym (determined_matches counts at point (earlier ++ l ∷ []) ls (over_more counts earlier l ls before over) (over_tail counts l ls over)) ∙ h) in
      let none = not_second (some_matches at earlier) (matches at l.cube) (ap (λ b. not b) (sym (some_matches-append at earlier (l ∷ []))) ∙ p.1) in
      sym (ap (λ b. cond b (one (least_of l.out)) (first_set at ls)) none)
      in
      All-append (Gives at (first_set at (l ∷ ls))) (lines_behind counts earlier l) (determined_from counts (earlier ++ l ∷ []) ls)
      (for_cubes at (one (least_of l.out)) (first_set at (l ∷ ls)) (cubes_outside counts earlier l.cube) here)
      (gives_as at (first_set at ls) (first_set at (l ∷ ls)) (determined_from counts (earlier ++ l ∷ []) ls) there
      (first_given (earlier ++ l ∷ []) ls (over_more counts earlier l ls before over) (over_tail counts l ls over)))

pub determined_plain : (counts : List ℕ) (c : Cover) → AreCubesOver counts c.lines → IsPlainlyDeterministic (determined_of counts c)
determined_plain counts c over =
    let new = determined_from counts [] c.lines in
    let given : (i : ℕ) (d : Line) → i < length new → (at : ℕ → ℕ) → matches at (get_or new i d).cube ≡ true → (get_or new i d).out ≡ first_set (pinned counts at) c.lines =
    λ i d low at h.
    first_given counts (pinned counts at) (pinned_point counts at) [] c.lines (over_none counts) over i d low
    (pinned_matches counts (get_or new i d).cube at (determined_over counts [] c.lines (over_none counts) over i d low).suits.fits h)
    in
    record {
      single = determined_single counts [] c.lines;
      default = default_one c.default;
      apart = λ i d low j e below. record { same = λ at p q. given i d low at p ∙ sym (given j e below at q) };
    }
