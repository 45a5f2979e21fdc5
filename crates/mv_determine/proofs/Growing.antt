-- The lines that a table is made into, one old line after the other, and whether there are too many.
use Rattle.std.proofs.Common.{◌≡◌, ◌∙◌, ℕ, ◌+◌, ◌≤◌, ◌<◌, Option, List, [], ◌∷◌, ◌++◌, length, take, drop, get_or, sym, ap, subst, arith, append_assoc, ⊎_elim}
use Rattle.std.proofs.Math.Seq.{take-append_seam, get_or-append_seam}
use Rattle.std.proofs.lemmas.Bool.{cases_lt}
use Rattle.std.proofs.lemmas.List.{append-nil, get_or_default, length-append, take-append-drop, take_all, take_more}
use Rattle.mv_base.specs.declared.limits.TheConstants.{MAX_COMPLEMENT_CUBES, MAX_TABLE_LINES}
use Rattle.mv_cover.specs.declared.line.Line.{Line}
use Rattle.mv_determine.specs.Determined.{IsTooLong, ManyLines, WideLine, cubes_outside, determined_from, lines_behind}

-- some lines, and then others behind them
from_append : (counts : List ℕ) (earlier xs ys : List Line)
    → determined_from counts earlier (xs ++ ys) ≡ determined_from counts earlier xs ++ determined_from counts (earlier ++ xs) ys
from_append counts earlier [] ys = ap (λ e. determined_from counts e ys) (sym (append-nil earlier))
from_append counts earlier (x ∷ xs) ys =
    ap (λ new. lines_behind counts earlier x ++ new)
    (from_append counts (earlier ++ x ∷ []) xs ys
    ∙ ap (λ e. determined_from counts (earlier ++ x ∷ []) xs ++ determined_from counts e ys) (append_assoc earlier (x ∷ []) xs))
    ∙ sym (append_assoc (lines_behind counts earlier x) (determined_from counts (earlier ++ x ∷ []) xs) (determined_from counts (earlier ++ x ∷ xs) ys))

-- so the lines stand after the first old ones: none of those became too many, and there aren't too many in all
pub record IsGrown (counts : List ℕ) (ls : List Line) (i : ℕ) (new : List Line) : Type 0 where
  pub list : new ≡ determined_from counts [] (take i ls)
  pub narrow : (j : ℕ) (d : Line) → j < i → (k : ℕ) → length (cubes_outside counts (take k (take j ls)) (get_or ls j d).cube) ≤ MAX_COMPLEMENT_CUBES
  pub few : length new ≤ MAX_TABLE_LINES

pub grown_none : (counts : List ℕ) (ls new : List Line) → new ≡ [] → IsGrown counts ls 0 new
grown_none counts ls new e = record { list = e; narrow = λ j d low. absurd (omega arith); few = omega (arith, ap length e) }

module _ (counts : List ℕ) (ls : List Line) (i : ℕ) (old new : List Line) (l : Line) (low : i < length ls) (is : l ≡ get_or ls i l) where
  -- the lines up to this one
  up_to : take (i + 1) ls ≡ take i ls ++ l ∷ []
  up_to = take_more ls i l low ∙ ap (λ m. take i ls ++ m ∷ []) (sym is)

  module _ (so_far : IsGrown counts ls i old) (more : new ≡ old ++ lines_behind counts (take i ls) l) where
    grown_list : new ≡ determined_from counts [] (take (i + 1) ls)
    grown_list =
        more
        ∙ (ap (λ new. new ++ lines_behind counts (take i ls) l) so_far.list
        ∙ (ap (λ behind. determined_from counts [] (take i ls) ++ behind) (sym (append-nil (lines_behind counts (take i ls) l)))
        ∙ (sym (from_append counts [] (take i ls) (l ∷ [])) ∙ ap (determined_from counts []) (sym up_to))))

    pub grown_more : ((k : ℕ) → length (cubes_outside counts (take k (take i ls)) l.cube) ≤ MAX_COMPLEMENT_CUBES) → length new ≤ MAX_TABLE_LINES → IsGrown counts ls (i + 1) new
    grown_more narrow few = record { list = grown_list; narrow = each; few = few }
      where
        here : (d : Line) (k : ℕ) → length (cubes_outside counts (take k (take i ls)) (get_or ls i d).cube) ≤ MAX_COMPLEMENT_CUBES
        here d k = subst (λ (m : Line). length (cubes_outside counts (take k (take i ls)) m.cube) ≤ MAX_COMPLEMENT_CUBES) (is ∙ get_or_default ls i l d low) (narrow k)

        each : (j : ℕ) (d : Line) → j < i + 1 → (k : ℕ) → length (cubes_outside counts (take k (take j ls)) (get_or ls j d).cube) ≤ MAX_COMPLEMENT_CUBES
        each j d below k =
            ⊎_elim
            (λ (less : j < i). so_far.narrow j d less k)
            (λ (past : i ≤ j).
            let same : i ≡ j = omega (arith, past, below) in
            subst (λ n. length (cubes_outside counts (take k (take n ls)) (get_or ls n d).cube) ≤ MAX_COMPLEMENT_CUBES) same (here d k))
            (cases_lt j i)

    -- there are too many in all
    pub grown_long : (default : Option ℕ) → MAX_TABLE_LINES < length new → IsTooLong counts (record { lines = ls; default = default })
    grown_long default many =
        let e = ap (λ x. length (determined_from counts [] x)) (sym (take-append-drop (i + 1) ls)) in
        let parts = ap length (from_append counts [] (take (i + 1) ls) (drop (i + 1) ls)) in
        let sum = length-append (determined_from counts [] (take (i + 1) ls)) (determined_from counts (take (i + 1) ls) (drop (i + 1) ls)) in
        let front = ap length grown_list in
        ManyLines (omega (arith, many, e, parts, sum, front))

  -- this one became too many
  pub grown_wide : (default : Option ℕ) → (k : ℕ) × (MAX_COMPLEMENT_CUBES < length (cubes_outside counts (take k (take i ls)) l.cube)) → IsTooLong counts (record { lines = ls; default = default })
  grown_wide default wide = WideLine (record {
    front = take i ls;
    line = l;
    back = drop (i + 1) ls;
    lines_are = sym (take-append-drop (i + 1) ls) ∙ (ap (λ x. x ++ drop (i + 1) ls) up_to ∙ append_assoc (take i ls) (l ∷ []) (drop (i + 1) ls));
    passed = wide.0;
    many = wide.1;
  })

-- all of them
module _ (counts : List ℕ) (ls : List Line) (i : ℕ) (new : List Line) (end : length ls ≤ i) (all : IsGrown counts ls i new) where
  pub grown_all : new ≡ determined_from counts [] ls
  grown_all = all.list ∙ ap (determined_from counts []) (take_all i ls end)

  pub grown_short : (default : Option ℕ) → IsTooLong counts (record { lines = ls; default = default }) → ⊥
  grown_short default (WideLine w) =
      let place = ap length w.lines_are in
      let sum = length-append w.front (w.line ∷ w.back) in
      let there : get_or ls (length w.front) w.line ≡ w.line = ap (λ x. get_or x (length w.front) w.line) w.lines_are ∙ get_or-append_seam w.front w.line w.back w.line in
      let before : take (length w.front) ls ≡ w.front = ap (take (length w.front)) w.lines_are ∙ take-append_seam w.front (w.line ∷ w.back) in
      let few = all.narrow (length w.front) w.line (omega (arith, place, sum, end)) w.passed in
      let e = (ap (λ (m : Line). length (cubes_outside counts (take w.passed (take (length w.front) ls)) m.cube)) there
      ∙ ap (λ x. length (cubes_outside counts (take w.passed x) w.line.cube)) before) in
      let many = w.many in
      absurd (omega (arith, few, e, many))
  grown_short default (ManyLines many) = let e = ap length grown_all in let few = all.few in absurd (omega (arith, many, e, few))
