-- The list that the lines leave: it grows along a line, holds where no line does, and its cubes suit the counts.
use Rattle.std.proofs.Common.{◌≡◌, ◌∙◌, ℕ, ◌+◌, ◌≤◌, ◌<◌, Bool, true, false, not, ◌&&◌, ◌||◌, List, [], ◌∷◌, ◌++◌, length, take, get_or, inl, inr, refl, sym, ap, subst, arith, fold, flat_map, append-nil, All, AllPairs}
use Rattle.std.proofs.lemmas.Bool.{false≢true}
use Rattle.std.proofs.lemmas.Grind.{flat_map-append}
use Rattle.std.proofs.lemmas.List.{length-append, take_all, take_more}
use Rattle.std.proofs.lemmas.List.Folds.{length-flat_map-take}
use Rattle.std.proofs.lemmas.List.Sums.{fold_more}
use Rattle.std.proofs.lemmas.List.Elements.{All-nil, All-cons, All-append, All-head, All-tail}
use Rattle.mv_base.specs.declared.limits.TheConstants.{MAX_COMPLEMENT_CUBES}
use Rattle.mv_cover.specs.Literal.{Lit}
use Rattle.mv_cover.specs.declared.line.Line.{Line}
use Rattle.mv_cover.specs.Cubes.{matches, IsCube}
use Rattle.mv_cover.specs.Covers.{some_matches}
use Rattle.mv_cover.specs.Covering.{IsPoint}
use Rattle.mv_cover.specs.Cofactors.{cubes_match}
use Rattle.mv_cover.specs.Containing.{FitsCube}
use Rattle.mv_cover.specs.Sharp.{Suits, IsCubeOver, AreDisjoint, sharp_of}
use Rattle.mv_cover.specs.Complement.{sharps_of, complement_of, IsWide, StaysWithin}
use Rattle.mv_cover.proofs.Points.{some_matches-append}
use Rattle.mv_cover.proofs.Meets.{Rises-cube, order}
use Rattle.mv_cover.proofs.Sharps.{one_if, one_if-most, held, held-append, held-sharp_of, suits-sharp_of, match-from_held, apart-from_HoldOnce}

-- ---- along one line

-- no cubes leave none
pub sharps-none : (counts : List ℕ) (d : List Lit) → sharps_of counts d [] ≡ []
unfolding sharps_of
sharps-none counts d = refl

-- one cube more adds its sharp at the end
pub sharps-more : (counts : List ℕ) (d : List Lit) (cs : List (List Lit)) (c : List Lit) → sharps_of counts d (cs ++ c ∷ []) ≡ sharps_of counts d cs ++ sharp_of counts c d
unfolding sharps_of
sharps-more counts d cs c =
    flat_map-append (λ x. sharp_of counts x d) cs (c ∷ []) ∙ ap (λ x. flat_map (λ y. sharp_of counts y d) cs ++ x) (append-nil (sharp_of counts c d))

-- what has passed a limit in the middle passes it at the end
pub sharps_pass : (counts : List ℕ) (d : List Lit) (all some now : List (List Lit)) (c : List Lit) (limit : ℕ) → some ≡ take (length some) all → length some < length all → c ≡ get_or all (length some) c → now ≡ sharps_of counts d some ++ sharp_of counts c d → limit < length now → limit < length (sharps_of counts d all)
unfolding sharps_of
sharps_pass counts d all some now c limit e low here f many =
    let grows = length-flat_map-take (λ x. sharp_of counts x d) all (length some) c low in
    let first : length (flat_map (λ x. sharp_of counts x d) some) ≡ length (flat_map (λ x. sharp_of counts x d) (take (length some) all)) = ap (λ x. length (flat_map (λ y. sharp_of counts y d) x)) e in
    let next : length (sharp_of counts c d) ≡ length (sharp_of counts (get_or all (length some) c) d) = ap (λ x. length (sharp_of counts x d)) here in
    let both : length now ≡ length (flat_map (λ x. sharp_of counts x d) some) + length (sharp_of counts c d) = ap length f ∙ length-append (flat_map (λ x. sharp_of counts x d) some) (sharp_of counts c d) in
    omega arith

-- the number that holds, or none where a cube taken out holds
abbrev pub kept : Bool → ℕ → ℕ
kept true n = 0
kept false n = n

-- what is kept of one and of others is kept of all
kept_more : (c d : Bool) (n : ℕ) → one_if (c && not d) + kept d n ≡ kept d (one_if c + n)
kept_more true true n = omega arith
kept_more true false n = omega arith
kept_more false true n = omega arith
kept_more false false n = omega arith

-- of none none is kept
kept_none : (d : Bool) → 0 ≡ kept d 0
kept_none true = refl
kept_none false = refl

-- the sharps by a cube hold as the cubes do, but nowhere where that cube does
pub held-sharps_of : (counts : List ℕ) (at : ℕ → ℕ) → IsPoint counts at → (d : List Lit) (cs : List (List Lit)) → FitsCube counts d → All (IsCubeOver counts) cs → held at (sharps_of counts d cs) ≡ kept (matches at d) (held at cs)
unfolding sharps_of
held-sharps_of counts at p d [] fits are = kept_none (matches at d)
held-sharps_of counts at p d (c ∷ cs) fits are =
    let is = All-head (IsCubeOver counts) c cs are in
    let first = held-sharp_of counts at p c d (Rises-cube c is.cube.ascending) fits in
    let rest = held-sharps_of counts at p d cs fits (All-tail (IsCubeOver counts) c cs are) in
    held-append at (sharp_of counts c d) (flat_map (λ x. sharp_of counts x d) cs) ∙ ((λ i. first i + rest i) ∙ kept_more (matches at c) (matches at d) (held at cs))

-- the sharps are cubes that suit the counts
pub suits-sharps_of : (counts : List ℕ) (d : List Lit) (cs : List (List Lit)) → IsCube d → Suits counts d → All (IsCubeOver counts) cs → All (IsCubeOver counts) (sharps_of counts d cs)
unfolding sharps_of
suits-sharps_of counts d [] it s are = All-nil (IsCubeOver counts)
suits-sharps_of counts d (c ∷ cs) it s are =
    All-append (IsCubeOver counts) (sharp_of counts c d) (flat_map (λ x. sharp_of counts x d) cs) (suits-sharp_of counts c d (All-head (IsCubeOver counts) c cs are) it s)
    (suits-sharps_of counts d cs it s (All-tail (IsCubeOver counts) c cs are))

-- ---- line after line

-- after the first i lines: the list, that it was never too long, where its cubes hold, and that they suit the counts
pub record Left (counts : List ℕ) (lines : List Line) (i : ℕ) (cubes : List (List Lit)) : Type 0 where
  pub list : cubes ≡ complement_of counts (take i lines)
  pub narrow : (k : ℕ) → k ≤ i → length (complement_of counts (take k lines)) ≤ MAX_COMPLEMENT_CUBES
  pub holding : (at : ℕ → ℕ) → IsPoint counts at → held at cubes ≡ one_if (not (some_matches at (take i lines)))
  pub suited : All (IsCubeOver counts) cubes

-- the cube without literals suits any counts
pub everywhere : (counts : List ℕ) → IsCubeOver counts []
everywhere counts = record {
  cube = record { ascending = refl; possible = refl };
  suits = record { fits = tt; few = λ n h. absurd (false≢true h) };
}

-- before the first line the list isn't too long
complement_of-none : (counts : List ℕ) (lines : List Line) (k : ℕ) → k ≤ 0 → length (complement_of counts (take k lines)) ≤ MAX_COMPLEMENT_CUBES
unfolding complement_of
complement_of-none counts lines k low = let none : k ≡ 0 = omega arith in rw none (omega arith)

-- before the first line there is the cube without literals
pub left_none : (counts : List ℕ) (lines : List Line) (cubes : List (List Lit)) → cubes ≡ [] ∷ [] → Left counts lines 0 cubes
unfolding complement_of
left_none counts lines cubes e =
    subst (λ (x : List (List Lit)). Left counts lines 0 x) (sym e)
    (record {
      list = refl;
      narrow = complement_of-none counts lines;
      holding = λ at p. omega arith;
      suited = All-cons (IsCubeOver counts) [] [] (everywhere counts) (All-nil (IsCubeOver counts));
    })

-- the list after one line more
complement_of-more : (counts : List ℕ) (lines : List Line) (i : ℕ) (line : Line) → i < length lines → line ≡ get_or lines i line → complement_of counts (take (i + 1) lines) ≡ sharps_of counts line.cube (complement_of counts (take i lines))
unfolding complement_of
complement_of-more counts lines i line low e =
    fold_more (λ cubes (l : Line). sharps_of counts l.cube cubes) ([] ∷ []) lines i line low ∙ ap (λ (l : Line). sharps_of counts l.cube (fold (λ cubes (m : Line). sharps_of counts m.cube cubes) ([] ∷ []) (take i lines))) (sym e)

-- neither of two, one after the other
not_either : (a b : Bool) → kept b (one_if (not a)) ≡ one_if (not (a || (b || false)))
not_either true true = refl
not_either true false = refl
not_either false true = refl
not_either false false = refl

-- one line more holds where it or one before does
matches_more : (at : ℕ → ℕ) (lines : List Line) (i : ℕ) (line : Line) → i < length lines → line ≡ get_or lines i line → some_matches at (take (i + 1) lines) ≡ (some_matches at (take i lines) || (matches at line.cube || false))
matches_more at lines i line low e =
    ap (some_matches at) (take_more lines i line low) ∙ (some_matches-append at (take i lines) (get_or lines i line ∷ []) ∙ ap (λ (l : Line). some_matches at (take i lines) || (matches at l.cube || false)) (sym e))

-- a line more, after which the list isn't too long
pub left_more : (counts : List ℕ) (lines : List Line) (i : ℕ) (cubes now : List (List Lit)) (line : Line) → i < length lines → line ≡ get_or lines i line → IsCube line.cube → Suits counts line.cube → now ≡ sharps_of counts line.cube cubes → length now ≤ MAX_COMPLEMENT_CUBES → Left counts lines i cubes → Left counts lines (i + 1) now
left_more counts lines i cubes now line low e is s f few so_far =
    let list : now ≡ complement_of counts (take (i + 1) lines) = f ∙ (ap (sharps_of counts line.cube) so_far.list ∙ sym (complement_of-more counts lines i line low e)) in
    record {
      list = list;
      narrow = λ k in_list.
          elim (order k (i + 1)) [
            | inl y ↦ let less : k < i + 1 = y.1 in so_far.narrow k (omega arith)
            | inr n ↦
                let above : i + 1 ≤ k = n.1 in
                let here : k ≡ i + 1 = omega arith in
                rw here (omega (arith, ap length list))
          ];
      holding = λ at p.
          ap (held at) f ∙ (held-sharps_of counts at p line.cube cubes s.fits so_far.suited ∙ (ap (kept (matches at line.cube)) (so_far.holding at p) ∙ (not_either (some_matches at (take i lines)) (matches at line.cube) ∙ ap (λ b. one_if (not b)) (sym (matches_more at lines i line low e)))));
      suited = subst (λ (x : List (List Lit)). All (IsCubeOver counts) x) (sym f) (suits-sharps_of counts line.cube cubes is s so_far.suited);
    }

-- a line more, after which the list is too long
pub left_wide : (counts : List ℕ) (lines : List Line) (i : ℕ) (cubes : List (List Lit)) (line : Line) → i < length lines → line ≡ get_or lines i line → MAX_COMPLEMENT_CUBES < length (sharps_of counts line.cube cubes) → Left counts lines i cubes → IsWide counts lines
left_wide counts lines i cubes line low e many so_far = record {
  passed = i + 1;
  many = rw (complement_of-more counts lines i line low e) (rw (← so_far.list) many);
}

-- what the list after all lines is
pub record IsComplement (counts : List ℕ) (lines : List Line) (cubes : List (List Lit)) : Type 0 where
  pub list : cubes ≡ complement_of counts lines
  pub narrow : StaysWithin counts lines
  pub points : (at : ℕ → ℕ) → IsPoint counts at → cubes_match at cubes ≡ not (some_matches at lines)
  pub apart : AllPairs (AreDisjoint counts) cubes
  pub suited : All (IsCubeOver counts) cubes

-- after the last line the list is the complement
pub left_all : (counts : List ℕ) (lines : List Line) (i : ℕ) (cubes : List (List Lit)) → length lines ≤ i → Left counts lines i cubes → IsComplement counts lines cubes
left_all counts lines i cubes end so_far =
    let all : take i lines ≡ lines = take_all i lines end in
    let holding : (at : ℕ → ℕ) → IsPoint counts at → held at cubes ≡ one_if (not (some_matches at lines)) = λ at p. so_far.holding at p ∙ ap (λ x. one_if (not (some_matches at x))) all in
    record {
      list = so_far.list ∙ ap (complement_of counts) all;
      narrow = record {
        each = λ k.
            elim (order i k) [
              | inl y ↦
                  let above : i < k = y.1 in
                  let same : take k lines ≡ take i lines = take_all k lines (omega arith) ∙ sym all in
                  rw same (so_far.narrow i (omega arith))
              | inr n ↦ so_far.narrow k n.1
            ];
      };
      points = λ at p. match-from_held at cubes (not (some_matches at lines)) (holding at p);
      apart = apart-from_HoldOnce counts cubes (record { most = λ at p. let e = holding at p in let m = one_if-most (not (some_matches at lines)) in omega arith });
      suited = so_far.suited;
    }
