-- What of a cube lies outside lines, as it comes line by line: each leaves of each cube its sharp, one after the other.
use Rattle.std.proofs.Common.{◌≡◌, ◌∙◌, ℕ, ◌+◌, ◌≤◌, ◌<◌, List, [], ◌∷◌, ◌++◌, length, take, get_or, sym, ap, subst, arith, fold, All, ⊎_elim}
use Rattle.std.proofs.lemmas.Bool.{cases_lt}
use Rattle.std.proofs.lemmas.List.{length-take-le, take_all, take_more}
use Rattle.std.proofs.lemmas.List.Elements.{All-nil, All-append}
use Rattle.std.proofs.lemmas.List.Sums.{fold_more}
use Rattle.mv_base.specs.declared.limits.TheConstants.{MAX_COMPLEMENT_CUBES}
use Rattle.mv_cover.specs.Literal.{Lit}
use Rattle.mv_cover.specs.declared.line.Line.{Line}
use Rattle.mv_cover.specs.Complement.{sharps_of}
use Rattle.mv_cover.specs.Sharp.{IsCubeOver, sharp_of}
use Rattle.mv_cover.proofs.Complements.{sharps-more, sharps-none, sharps_pass}
use Rattle.mv_determine.specs.Determined.{cubes_outside}
use Rattle.mv_determine.proofs.Outside.{alone}

-- ---- the sharps by one line

-- the sharps of the first cubes by another, of which there aren't too many
pub record AreSharps (counts : List ℕ) (d : List Lit) (cs : List (List Lit)) (i : ℕ) (left : List (List Lit)) : Type 0 where
  pub list : left ≡ sharps_of counts d (take i cs)
  pub suited : All (IsCubeOver counts) left
  pub narrow : length left ≤ MAX_COMPLEMENT_CUBES

pub sharps_begun : (counts : List ℕ) (d : List Lit) (cs left : List (List Lit)) → left ≡ [] → AreSharps counts d cs 0 left
sharps_begun counts d cs left e = record {
  list = e ∙ sym (sharps-none counts d);
  suited = subst (All (IsCubeOver counts)) (sym e) (All-nil (IsCubeOver counts));
  narrow = omega (arith, ap length e);
}

module _ (counts : List ℕ) (d : List Lit) (cs left now parts : List (List Lit)) (i : ℕ) (c : List Lit) (low : i < length cs) (e : c ≡ get_or cs i c) (so_far : AreSharps counts d cs i left)
    (sharp : parts ≡ sharp_of counts c d) (put : now ≡ left ++ parts) where
  put_sharp : now ≡ sharps_of counts d (take i cs) ++ sharp_of counts c d
  put_sharp = put ∙ (ap (λ x. x ++ parts) so_far.list ∙ ap (λ x. sharps_of counts d (take i cs) ++ x) sharp)

  pub sharps_next : All (IsCubeOver counts) parts → length now ≤ MAX_COMPLEMENT_CUBES → AreSharps counts d cs (i + 1) now
  sharps_next suited few = record {
    list = put_sharp ∙ (sym (sharps-more counts d (take i cs) c) ∙ ap (sharps_of counts d) (sym (take_more cs i c low ∙ ap (λ x. take i cs ++ x ∷ []) (sym e))));
    suited = subst (All (IsCubeOver counts)) (sym put) (All-append (IsCubeOver counts) left parts so_far.suited suited);
    narrow = few;
  }

  pub sharps_long : MAX_COMPLEMENT_CUBES < length now → MAX_COMPLEMENT_CUBES < length (sharps_of counts d cs)
  sharps_long many =
      let long : i ≡ length (take i cs) = sym (length-take-le i cs (omega (arith, low))) in
      sharps_pass counts d cs (take i cs) now c MAX_COMPLEMENT_CUBES (ap (λ n. take n cs) long) (omega (arith, long, low)) (e ∙ ap (λ n. get_or cs n c) long) put_sharp many

pub sharps_all : (counts : List ℕ) (d : List Lit) (cs left : List (List Lit)) (i : ℕ) → length cs ≤ i → AreSharps counts d cs i left → left ≡ sharps_of counts d cs
sharps_all counts d cs left i end so_far = so_far.list ∙ ap (sharps_of counts d) (take_all i cs end)

-- ---- line by line

-- so the list stands after the first lines: it was never too long
pub record Beyond (counts : List ℕ) (ls : List Line) (c : List Lit) (i : ℕ) (cubes : List (List Lit)) : Type 0 where
  pub list : cubes ≡ cubes_outside counts (take i ls) c
  pub narrow : (k : ℕ) → k ≤ i → length (cubes_outside counts (take k ls) c) ≤ MAX_COMPLEMENT_CUBES
  pub suited : All (IsCubeOver counts) cubes

pub beyond_none : (counts : List ℕ) (ls : List Line) (c : List Lit) (cubes : List (List Lit)) → IsCubeOver counts c → cubes ≡ c ∷ [] → Beyond counts ls c 0 cubes
unfolding cubes_outside
beyond_none counts ls c cubes is e = record {
  list = e;
  narrow = λ k low. let none : k ≡ 0 = omega arith in rw none (omega arith);
  suited = subst (All (IsCubeOver counts)) (sym e) (alone counts c is);
}

outside_more : (counts : List ℕ) (ls : List Line) (c : List Lit) (i : ℕ) (l : Line) → i < length ls → l ≡ get_or ls i l → cubes_outside counts (take (i + 1) ls) c ≡ sharps_of counts l.cube (cubes_outside counts (take i ls) c)
unfolding cubes_outside
outside_more counts ls c i l low e =
    fold_more (λ cubes (k : Line). sharps_of counts k.cube cubes) (c ∷ []) ls i l low
    ∙ ap (λ (k : Line). sharps_of counts k.cube (fold (λ cubes (m : Line). sharps_of counts m.cube cubes) (c ∷ []) (take i ls))) (sym e)

module _ (counts : List ℕ) (ls : List Line) (c : List Lit) (i : ℕ) (cubes now : List (List Lit)) (l : Line) (low : i < length ls) (e : l ≡ get_or ls i l) (so_far : Beyond counts ls c i cubes) where
  pub beyond_more : now ≡ sharps_of counts l.cube cubes → length now ≤ MAX_COMPLEMENT_CUBES → All (IsCubeOver counts) now → Beyond counts ls c (i + 1) now
  beyond_more f few suited =
      let list : now ≡ cubes_outside counts (take (i + 1) ls) c = f ∙ (ap (sharps_of counts l.cube) so_far.list ∙ sym (outside_more counts ls c i l low e)) in
      record {
        list = list;
        narrow = λ k below.
            ⊎_elim
            (λ (less : k < i + 1). so_far.narrow k (omega (arith, less)))
            (λ (past : i + 1 ≤ k). let here : k ≡ i + 1 = omega (arith, past, below) in rw here (omega (arith, ap length list, few)))
            (cases_lt k (i + 1));
        suited = suited;
      }

  pub beyond_wide : MAX_COMPLEMENT_CUBES < length (sharps_of counts l.cube cubes) → (k : ℕ) × (MAX_COMPLEMENT_CUBES < length (cubes_outside counts (take k ls) c))
  beyond_wide many =
      let same : sharps_of counts l.cube cubes ≡ cubes_outside counts (take (i + 1) ls) c = ap (sharps_of counts l.cube) so_far.list ∙ sym (outside_more counts ls c i l low e) in
      (i + 1, subst (λ (x : List (List Lit)). MAX_COMPLEMENT_CUBES < length x) same many)

module _ (counts : List ℕ) (ls : List Line) (c : List Lit) (i : ℕ) (cubes : List (List Lit)) (end : length ls ≤ i) (so_far : Beyond counts ls c i cubes) where
  pub beyond_all : cubes ≡ cubes_outside counts ls c
  beyond_all = so_far.list ∙ ap (λ x. cubes_outside counts x c) (take_all i ls end)

  pub beyond_narrow : (k : ℕ) → length (cubes_outside counts (take k ls) c) ≤ MAX_COMPLEMENT_CUBES
  beyond_narrow k =
      ⊎_elim
      (λ (less : k < i). so_far.narrow k (omega (arith, less)))
      (λ (past : i ≤ k).
      let same : take k ls ≡ take i ls = take_all k ls (omega (arith, past, end)) ∙ sym (take_all i ls end) in
      let few = so_far.narrow i (omega arith) in
      let e = ap (λ x. length (cubes_outside counts x c)) same in
      omega (arith, e, few))
      (cases_lt k i)
