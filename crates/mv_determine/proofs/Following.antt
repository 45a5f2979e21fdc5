-- Lines made deterministic behind others: where they hold, what they give, and what they read.
use Rattle.std.proofs.Common.{◌≡◌, ◌∙◌, ◌⊎◌, ℕ, ◌≤◌, Bool, true, false, not, ◌&&◌, ◌||◌, List, [], ◌∷◌, ◌++◌, inl, inr, refl, sym, ap}
use Rattle.std.proofs.lemmas.Bool.{false≢true, and_parts, and_from, or_cases, or_left, or_right}
use Rattle.std.proofs.lemmas.List.Elements.{All-nil, All-append, All-head, All-tail}
use Rattle.mv_base.specs.Set.{has, one}
use Rattle.mv_base.specs.declared.limits.TheConstants.{MAX_VALUES}
use Rattle.mv_cover.specs.Literal.{Lit}
use Rattle.mv_cover.specs.declared.line.Line.{Line}
use Rattle.mv_cover.specs.Cofactors.{cubes_match}
use Rattle.mv_cover.specs.Complement.{lines_for}
use Rattle.mv_cover.specs.Covering.{IsPoint}
use Rattle.mv_cover.specs.Covers.{cube_reads, lines_read, some_gives, some_matches}
use Rattle.mv_cover.specs.Cubes.{matches}
use Rattle.mv_cover.specs.Lines.{IsOutput}
use Rattle.mv_cover.specs.Sharp.{IsCubeOver}
use Rattle.mv_cover.proofs.Points.{some_gives-append, some_matches-append}
use Rattle.mv_cover.proofs.Spelling.{gives-lines_for}
use Rattle.mv_composite.specs.Inside.{AreCubesOver, AreOutputs}
use Rattle.mv_composite.proofs.Formed.{over-lines_for, outputs-lines_for}
use Rattle.mv_determine.specs.Determined.{cubes_outside, determined_from, least_of, lines_behind}
use Rattle.mv_determine.proofs.Least.{least_below, least_there, one_only, one_output}
use Rattle.mv_determine.proofs.Outside.{outside_matches, outside_suited, over_head, over_more, over_none, over_tail}
use Rattle.mv_determine.proofs.Reading.{lines_read-append, lines_read-for, reads_outside}

-- lines of one output hold where a cube does
pub matches-lines_for : (at : ℕ → ℕ) (out : ℕ) (cs : List (List Lit)) → some_matches at (lines_for out cs) ≡ cubes_match at cs
matches-lines_for at out [] = refl
matches-lines_for at out (c ∷ cs) = ap (λ b. matches at c || b) (matches-lines_for at out cs)

-- ---- what holds of each line

-- it is a cube that suits the counts
pub determined_over : (counts : List ℕ) (earlier ls : List Line) → AreCubesOver counts earlier → AreCubesOver counts ls → AreCubesOver counts (determined_from counts earlier ls)
determined_over counts earlier [] before over = over_none counts
determined_over counts earlier (l ∷ ls) before over =
    All-append (λ (k : Line). IsCubeOver counts k.cube) (lines_behind counts earlier l) (determined_from counts (earlier ++ l ∷ []) ls)
    (over-lines_for counts (one (least_of l.out)) (cubes_outside counts earlier l.cube) (outside_suited counts earlier l.cube before (over_head counts l ls over)))
    (determined_over counts (earlier ++ l ∷ []) ls (over_more counts earlier l ls before over) (over_tail counts l ls over))

-- it gives some of the net's values
pub determined_outputs : (counts : List ℕ) (values : ℕ) → values ≤ MAX_VALUES → (earlier ls : List Line) → AreOutputs values ls → AreOutputs values (determined_from counts earlier ls)
determined_outputs counts values few earlier [] outs = All-nil (λ (k : Line). IsOutput values k.out)
determined_outputs counts values few earlier (l ∷ ls) outs =
    let P : Line → Type 0 = λ k. IsOutput values k.out in
    let low = least_below values l.out few (All-head P l ls outs) in
    All-append P (lines_behind counts earlier l) (determined_from counts (earlier ++ l ∷ []) ls)
    (outputs-lines_for values (one (least_of l.out)) (cubes_outside counts earlier l.cube) (one_output values (least_of l.out) low))
    (determined_outputs counts values few (earlier ++ l ∷ []) ls (All-tail P l ls outs))

-- ---- where they hold

both : (m s e : Bool) → ((m && not e) || (s && not (e || (m || false)))) ≡ ((m || s) && not e)
both true true true = refl
both true true false = refl
both true false true = refl
both true false false = refl
both false true true = refl
both false true false = refl
both false false true = refl
both false false false = refl

module _ (counts : List ℕ) (at : ℕ → ℕ) (point : IsPoint counts at) where
  -- a line behind others holds where it does and none of those
  pub behind_matches : (earlier : List Line) (l : Line) → AreCubesOver counts earlier → IsCubeOver counts l.cube → some_matches at (lines_behind counts earlier l) ≡ (matches at l.cube && not (some_matches at earlier))
  behind_matches earlier l before is =
      matches-lines_for at (one (least_of l.out)) (cubes_outside counts earlier l.cube) ∙ outside_matches counts earlier l.cube before is at point

  -- all of them hold where one of the lines does and none before them
  pub determined_matches : (earlier ls : List Line) → AreCubesOver counts earlier → AreCubesOver counts ls → some_matches at (determined_from counts earlier ls) ≡ (some_matches at ls && not (some_matches at earlier))
  determined_matches earlier [] before over = refl
  determined_matches earlier (l ∷ ls) before over =
      let rest = determined_matches (earlier ++ l ∷ []) ls (over_more counts earlier l ls before over) (over_tail counts l ls over) in
      some_matches-append at (lines_behind counts earlier l) (determined_from counts (earlier ++ l ∷ []) ls)
      ∙ (ap (λ b. b || some_matches at (determined_from counts (earlier ++ l ∷ []) ls)) (behind_matches earlier l before (over_head counts l ls over))
      ∙ (ap (λ b. (matches at l.cube && not (some_matches at earlier)) || b) (rest ∙ ap (λ b. some_matches at ls && not b) (some_matches-append at earlier (l ∷ [])))
      ∙ both (matches at l.cube) (some_matches at ls) (some_matches at earlier)))

-- ---- what they give

module _ (counts : List ℕ) (values : ℕ) (few : values ≤ MAX_VALUES) (at : ℕ → ℕ) (point : IsPoint counts at) (v : ℕ) where
  -- what they give the lines gave
  pub determined_gives : (earlier ls : List Line) → AreCubesOver counts earlier → AreCubesOver counts ls → AreOutputs values ls → some_gives at v (determined_from counts earlier ls) ≡ true → some_gives at v ls ≡ true
  determined_gives earlier [] before over outs h = h
  determined_gives earlier (l ∷ ls) before over outs h =
      elim (or_cases (some_gives at v (lines_behind counts earlier l)) (some_gives at v (determined_from counts (earlier ++ l ∷ []) ls)) (sym (some_gives-append at v (lines_behind counts earlier l) (determined_from counts (earlier ++ l ∷ []) ls)) ∙ h)) [
        | inl here ↦
            let p = and_parts (cubes_match at (cubes_outside counts earlier l.cube)) (has (one (least_of l.out)) v) (sym (gives-lines_for at v (one (least_of l.out)) (cubes_outside counts earlier l.cube)) ∙ here) in
            let q = and_parts (matches at l.cube) (not (some_matches at earlier)) (sym (outside_matches counts earlier l.cube before (over_head counts l ls over) at point) ∙ p.0) in
            let out = All-head (λ (l : Line). IsOutput values l.out) l ls outs in
            let gives : has l.out v ≡ true = ap (has l.out) (one_only (least_of l.out) v p.1) ∙ least_there values l.out few out in
            or_left (matches at l.cube && has l.out v) (some_gives at v ls) (and_from (matches at l.cube) (has l.out v) q.0 gives)
        | inr later ↦
            or_right (matches at l.cube && has l.out v) (some_gives at v ls)
            (determined_gives (earlier ++ l ∷ []) ls (over_more counts earlier l ls before over) (over_tail counts l ls over) (All-tail (λ (l : Line). IsOutput values l.out) l ls outs) later)
      ]

-- a line that holds gives a value
pub some_given : (values : ℕ) → values ≤ MAX_VALUES → (at : ℕ → ℕ) (ls : List Line) → AreOutputs values ls → some_matches at ls ≡ true → (v : ℕ) × (some_gives at v ls ≡ true)
some_given values few at [] outs h = absurd (false≢true h)
some_given values few at (l ∷ ls) outs h =
    elim (or_cases (matches at l.cube) (some_matches at ls) h) [
      | inl here ↦
          let there = least_there values l.out few (All-head (λ (l : Line). IsOutput values l.out) l ls outs) in
          (least_of l.out, or_left (matches at l.cube && has l.out (least_of l.out)) (some_gives at (least_of l.out) ls) (and_from (matches at l.cube) (has l.out (least_of l.out)) here there))
      | inr later ↦
          let g = some_given values few at ls (All-tail (λ (l : Line). IsOutput values l.out) l ls outs) later in
          (g.0, or_right (matches at l.cube && has l.out g.0) (some_gives at g.0 ls) g.1)
    ]

-- ---- what they read

pub determined_reads : (counts : List ℕ) (m : ℕ) (earlier ls : List Line) → lines_read (determined_from counts earlier ls) m ≡ true → (lines_read earlier m ≡ true) ⊎ (lines_read ls m ≡ true)
determined_reads counts m earlier [] h = inr h
determined_reads counts m earlier (l ∷ ls) h =
    elim (or_cases (lines_read (lines_behind counts earlier l) m) (lines_read (determined_from counts (earlier ++ l ∷ []) ls) m) (sym (lines_read-append m (lines_behind counts earlier l) (determined_from counts (earlier ++ l ∷ []) ls)) ∙ h)) [
      | inl here ↦
          elim (reads_outside counts earlier l.cube m (sym (lines_read-for m (one (least_of l.out)) (cubes_outside counts earlier l.cube)) ∙ here)) [
            | inl own ↦ inr (or_left (cube_reads l.cube m) (lines_read ls m) own)
            | inr before ↦ inl before
          ]
      | inr later ↦
          elim (determined_reads counts m (earlier ++ l ∷ []) ls later) [
            | inl before ↦
                elim (or_cases (lines_read earlier m) (cube_reads l.cube m || false) (sym (lines_read-append m earlier (l ∷ [])) ∙ before)) [
                  | inl first ↦ inl first
                  | inr own ↦
                      elim (or_cases (cube_reads l.cube m) false own) [
                        | inl read ↦ inr (or_left (cube_reads l.cube m) (lines_read ls m) read)
                        | inr bad ↦ absurd (false≢true bad)
                      ]
                ]
            | inr rest ↦ inr (or_right (cube_reads l.cube m) (lines_read ls m) rest)
          ]
    ]
