-- What of a cube lies outside lines: where it holds, and that its cubes share no point.
use Rattle.std.proofs.Common.{◌≡◌, ◌∙◌, ℕ, ◌+◌, Bool, true, false, not, ◌&&◌, ◌||◌, cond, List, [], ◌∷◌, ◌++◌, get_or, nat_lt, inl, inr, refl, sym, ap, arith, fold, All}
use Rattle.std.proofs.lemmas.Bool.{cases_Bool, false≢true, and_parts, and_from, ltb-true}
use Rattle.std.proofs.lemmas.List.Elements.{All-nil, All-cons, All-append, All-head, All-tail}
use Rattle.mv_base.specs.Set.{has}
use Rattle.mv_base.proofs.Sets.{has-full}
use Rattle.mv_cover.specs.Literal.{Lit}
use Rattle.mv_cover.specs.declared.line.Line.{Line}
use Rattle.mv_cover.specs.Cofactors.{cubes_match}
use Rattle.mv_cover.specs.Complement.{sharps_of}
use Rattle.mv_cover.specs.Containing.{FitsCube, MissesPoint}
use Rattle.mv_cover.specs.Covering.{IsPoint}
use Rattle.mv_cover.specs.Covers.{some_matches}
use Rattle.mv_cover.specs.Cubes.{holds, matches, IsCube}
use Rattle.mv_cover.specs.Sharp.{IsCubeOver}
use Rattle.mv_cover.proofs.Complements.{held-sharps_of, kept, suits-sharps_of}
use Rattle.mv_cover.proofs.Containing.{lies_outside}
use Rattle.mv_cover.proofs.Meets.{Rises-cube}
use Rattle.mv_cover.proofs.Members.{point_of}
use Rattle.mv_cover.proofs.Sharps.{HoldOnce, held, match-from_held, one_if, one_if-most}
use Rattle.mv_composite.specs.Inside.{AreCubesOver}
use Rattle.mv_determine.specs.Determined.{cubes_outside}

-- ---- points

-- the assignment, with 0 where a net hasn't the value
abbrev pub pinned : List ℕ → (ℕ → ℕ) → ℕ → ℕ
pinned counts at n = cond (nat_lt (at n) (get_or counts n 0)) (at n) 0

pub pinned_point : (counts : List ℕ) (at : ℕ → ℕ) → IsPoint counts (pinned counts at)
pinned_point counts at = record {
  below = λ n some.
      elim (cases_Bool (nat_lt (at n) (get_or counts n 0))) [
        | inl t ↦ rw t (ltb-true (at n) (get_or counts n 0) t)
        | inr f ↦ rw f some
      ];
}

-- where a cube holds that fits the counts, it still does
pub pinned_matches : (counts : List ℕ) (c : List Lit) (at : ℕ → ℕ) → FitsCube counts c → matches at c ≡ true → matches (pinned counts at) c ≡ true
pinned_matches counts [] at fits h = refl
pinned_matches counts (l ∷ ls) at fits h =
    let p = and_parts (holds at l) (matches at ls) h in
    let low : nat_lt (at l.net.0) (get_or counts l.net.0 0) ≡ true = sym (has-full (get_or counts l.net.0 0) (at l.net.0)) ∙ fits.0.within (at l.net.0) p.0 in
    let same : pinned counts at l.net.0 ≡ at l.net.0 = ap (λ b. cond b (at l.net.0) 0) low in
    and_from (holds (pinned counts at) l) (matches (pinned counts at) ls) (ap (has l.set) same ∙ p.0) (pinned_matches counts ls at fits.1 p.1)

-- a point at which a cube holds
pub record Holds (counts : List ℕ) (c : List Lit) : Type 0 where
  pub at : ℕ → ℕ
  pub point : IsPoint counts at
  pub there : matches at c ≡ true

pub holds_somewhere : (counts : List ℕ) (c : List Lit) → IsCubeOver counts c → Holds counts c
holds_somewhere counts c is =
    let p = point_of 0 c (Rises-cube c is.cube.ascending) is.cube.possible in
    record { at = pinned counts p.at; point = pinned_point counts p.at; there = pinned_matches counts c p.at is.suits.fits p.there }

-- a cube that holds at every point has no literal
pub holds_everywhere : (counts : List ℕ) (c : List Lit) → IsCubeOver counts c → ((at : ℕ → ℕ) → IsPoint counts at → matches at c ≡ true) → c ≡ []
holds_everywhere counts [] is each = refl
holds_everywhere counts (l ∷ ls) is each =
    let none : IsCube [] = record { ascending = refl; possible = refl } in
    let misses : MissesPoint counts (l ∷ ls) [] = lies_outside counts [] (l ∷ ls) none is.cube refl is.suits.fits tt in
    absurd (false≢true (sym misses.missed ∙ each misses.at misses.point))

-- ---- where it holds

-- lines whose cubes suit the counts: the first, the others, and one more behind them
pub over_head : (counts : List ℕ) (l : Line) (ls : List Line) → AreCubesOver counts (l ∷ ls) → IsCubeOver counts l.cube
over_head counts l ls are = All-head (λ (l : Line). IsCubeOver counts l.cube) l ls are

pub over_tail : (counts : List ℕ) (l : Line) (ls : List Line) → AreCubesOver counts (l ∷ ls) → AreCubesOver counts ls
over_tail counts l ls are = All-tail (λ (l : Line). IsCubeOver counts l.cube) l ls are

pub over_more : (counts : List ℕ) (earlier : List Line) (l : Line) (ls : List Line) → AreCubesOver counts earlier → AreCubesOver counts (l ∷ ls) → AreCubesOver counts (earlier ++ l ∷ [])
over_more counts earlier l ls before over =
    let P : Line → Type 0 = λ l. IsCubeOver counts l.cube in
    All-append P earlier (l ∷ []) before (All-cons P l [] (over_head counts l ls over) (All-nil P))

pub over_none : (counts : List ℕ) → AreCubesOver counts []
over_none counts = All-nil (λ (l : Line). IsCubeOver counts l.cube)

-- taken out by two, one after the other
kept_both : (a b : Bool) (n : ℕ) → kept b (kept a n) ≡ kept (a || b) n
kept_both true true n = refl
kept_both true false n = refl
kept_both false b n = refl

held_from : (counts : List ℕ) (at : ℕ → ℕ) → IsPoint counts at → (ls : List Line) (cs : List (List Lit)) → AreCubesOver counts ls → All (IsCubeOver counts) cs
    → held at (fold (λ cubes (l : Line). sharps_of counts l.cube cubes) cs ls) ≡ kept (some_matches at ls) (held at cs)
held_from counts at p [] cs over are = refl
held_from counts at p (l ∷ ls) cs over are =
    let is = over_head counts l ls over in
    held_from counts at p ls (sharps_of counts l.cube cs) (over_tail counts l ls over) (suits-sharps_of counts l.cube cs is.cube is.suits are)
    ∙ (ap (kept (some_matches at ls)) (held-sharps_of counts at p l.cube cs is.suits.fits are) ∙ kept_both (matches at l.cube) (some_matches at ls) (held at cs))

suited_from : (counts : List ℕ) (ls : List Line) (cs : List (List Lit)) → AreCubesOver counts ls → All (IsCubeOver counts) cs
    → All (IsCubeOver counts) (fold (λ cubes (l : Line). sharps_of counts l.cube cubes) cs ls)
suited_from counts [] cs over are = are
suited_from counts (l ∷ ls) cs over are =
    let is = over_head counts l ls over in
    suited_from counts ls (sharps_of counts l.cube cs) (over_tail counts l ls over) (suits-sharps_of counts l.cube cs is.cube is.suits are)

-- a cube alone
pub alone : (counts : List ℕ) (c : List Lit) → IsCubeOver counts c → All (IsCubeOver counts) (c ∷ [])
alone counts c is = All-cons (IsCubeOver counts) c [] is (All-nil (IsCubeOver counts))

kept_one : (m e : Bool) → kept e (one_if m + 0) ≡ one_if (m && not e)
kept_one true true = refl
kept_one true false = omega arith
kept_one false true = refl
kept_one false false = omega arith

module _ (counts : List ℕ) (ls : List Line) (c : List Lit) (over : AreCubesOver counts ls) (is : IsCubeOver counts c) where
  pub held_outside : (at : ℕ → ℕ) → IsPoint counts at → held at (cubes_outside counts ls c) ≡ one_if (matches at c && not (some_matches at ls))
  unfolding cubes_outside
  held_outside at p = held_from counts at p ls (c ∷ []) over (alone counts c is) ∙ kept_one (matches at c) (some_matches at ls)

  -- it holds where the cube does and none of the lines
  pub outside_matches : (at : ℕ → ℕ) → IsPoint counts at → cubes_match at (cubes_outside counts ls c) ≡ (matches at c && not (some_matches at ls))
  outside_matches at p = match-from_held at (cubes_outside counts ls c) (matches at c && not (some_matches at ls)) (held_outside at p)

  -- no two of its cubes hold at one point
  pub outside_once : HoldOnce counts (cubes_outside counts ls c)
  outside_once = record { most = λ at p. let e = held_outside at p in let few = one_if-most (matches at c && not (some_matches at ls)) in omega (arith, e, few) }

  pub outside_suited : All (IsCubeOver counts) (cubes_outside counts ls c)
  unfolding cubes_outside
  outside_suited = suited_from counts ls (c ∷ []) over (alone counts c is)
