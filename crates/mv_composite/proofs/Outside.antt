-- The complement of lines, without a bound on it: where its cubes hold, over which counts they are, and what they read.
use Rattle.std.proofs.Common.{◌≡◌, ◌∙◌, ℕ, ◌+◌, Bool, true, false, not, ◌||◌, ◌⊎◌, All, List, [], ◌∷◌, nat_eq, inl, inr, refl, sym, ap}
use Rattle.std.specs.List.{fold, flat_map}
use Rattle.std.proofs.lemmas.Bool.{cases_Bool, false≢true, or_cases, or_left, or_right}
use Rattle.std.proofs.lemmas.List.Elements.{All-nil, All-cons, All-head, All-tail}
use Rattle.mv_base.specs.Set.{empty, minus, meet}
use Rattle.mv_cover.specs.Literal.{Lit}
use Rattle.mv_cover.specs.declared.line.Line.{Line}
use Rattle.mv_cover.specs.Cubes.{matches}
use Rattle.mv_cover.specs.Covers.{some_matches, cube_reads, lines_read}
use Rattle.mv_cover.specs.Covering.{IsPoint}
use Rattle.mv_cover.specs.Cofactors.{cubes_read}
use Rattle.mv_cover.specs.Overlap.{cubes_meet}
use Rattle.mv_cover.specs.Sharp.{IsCubeOver, values_left, with_literal, inside_of, outside_of, parts_outside, sharp_of}
use Rattle.mv_cover.specs.Complement.{sharps_of, complement_of}
use Rattle.mv_cover.proofs.Sharps.{one_if, held, match-from_held, reads-with_literal}
use Rattle.mv_cover.proofs.Complements.{kept, held-sharps_of, suits-sharps_of, everywhere}
use Rattle.mv_cover.proofs.Spelling.{ComplementHolds}
use Rattle.mv_composite.specs.Inside.{AreCubesOver}
use Rattle.mv_composite.proofs.Cubes.{read-append}

-- ---- where the cubes hold

kept_twice : (a b : Bool) (n : ℕ) → kept b (kept a n) ≡ kept (a || b) n
kept_twice true true n = refl
kept_twice true false n = refl
kept_twice false b n = refl

-- each line takes out of the cubes before it where it holds
held_from : (counts : List ℕ) (lines : List Line) (cubes : List (List Lit)) → AreCubesOver counts lines → All (IsCubeOver counts) cubes → (at : ℕ → ℕ) → IsPoint counts at → held at (fold (λ cs (l : Line). sharps_of counts l.cube cs) cubes lines) ≡ kept (some_matches at lines) (held at cubes)
held_from counts [] cubes are over at p = refl
held_from counts (l ∷ ls) cubes are over at p =
    let is = All-head (λ (m : Line). IsCubeOver counts m.cube) l ls are in
    held_from counts ls (sharps_of counts l.cube cubes) (All-tail (λ (m : Line). IsCubeOver counts m.cube) l ls are) (suits-sharps_of counts l.cube cubes is.cube is.suits over) at p
    ∙ (ap (kept (some_matches at ls)) (held-sharps_of counts at p l.cube cubes is.suits.fits over) ∙ kept_twice (matches at l.cube) (some_matches at ls) (held at cubes))

kept_one : (b : Bool) → kept b (one_if true + 0) ≡ one_if (not b)
kept_one true = refl
kept_one false = refl

all_over : (counts : List ℕ) → All (IsCubeOver counts) ([] ∷ [])
all_over counts = All-cons (IsCubeOver counts) [] [] (everywhere counts) (All-nil (IsCubeOver counts))

pub complement_holds : (counts : List ℕ) (lines : List Line) → AreCubesOver counts lines → ComplementHolds counts lines
unfolding complement_of
complement_holds counts lines are = record {
  points = λ at p.
      match-from_held at (fold (λ cs (l : Line). sharps_of counts l.cube cs) ([] ∷ []) lines) (not (some_matches at lines))
      (held_from counts lines ([] ∷ []) are (all_over counts) at p ∙ kept_one (some_matches at lines));
}

-- ---- the counts

over_from : (counts : List ℕ) (lines : List Line) (cubes : List (List Lit)) → AreCubesOver counts lines → All (IsCubeOver counts) cubes → All (IsCubeOver counts) (fold (λ cs (l : Line). sharps_of counts l.cube cs) cubes lines)
over_from counts [] cubes are over = over
over_from counts (l ∷ ls) cubes are over =
    let is = All-head (λ (m : Line). IsCubeOver counts m.cube) l ls are in
    over_from counts ls (sharps_of counts l.cube cubes) (All-tail (λ (m : Line). IsCubeOver counts m.cube) l ls are) (suits-sharps_of counts l.cube cubes is.cube is.suits over)

pub complement_over : (counts : List ℕ) (lines : List Line) → AreCubesOver counts lines → All (IsCubeOver counts) (complement_of counts lines)
unfolding complement_of
complement_over counts lines are = over_from counts lines ([] ∷ []) are (all_over counts)

-- ---- what the cubes read

-- with a literal on its net a cube reads that net, and what it read
reads_put : (l : Lit) (c d : List Lit) (m : ℕ) → cube_reads (with_literal l c) m ≡ true → (cube_reads c m ≡ true) ⊎ (cube_reads (l ∷ d) m ≡ true)
reads_put l c d m h =
    elim (reads-with_literal l c m h) [
      | inl t ↦ inr (or_left (nat_eq l.net.0 m) (cube_reads d m) t)
      | inr r ↦ inl r
    ]

reads-outside_of : (counts : List ℕ) (c d : List Lit) (l : Lit) (m : ℕ) → cubes_read (outside_of counts c l) m ≡ true → (cube_reads c m ≡ true) ⊎ (cube_reads (l ∷ d) m ≡ true)
unfolding outside_of
reads-outside_of counts c d l m h =
    elim (cases_Bool (nat_eq (minus (values_left counts c l.net.0) l.set) empty)) [
      | inl t ↦ absurd (false≢true (rw t at h))
      | inr f ↦
          elim (or_cases (cube_reads (with_literal (record { net = l.net; set = minus (values_left counts c l.net.0) l.set }) c) m) false (rw f at h)) [
            | inl r ↦ reads_put (record { net = l.net; set = minus (values_left counts c l.net.0) l.set }) c d m r
            | inr bad ↦ absurd (false≢true bad)
          ]
    ]

reads-parts_outside : (counts : List ℕ) (d c : List Lit) (m : ℕ) → cubes_read (parts_outside counts c d) m ≡ true → (cube_reads c m ≡ true) ⊎ (cube_reads d m ≡ true)
unfolding parts_outside inside_of
reads-parts_outside counts [] c m h = absurd (false≢true h)
reads-parts_outside counts (l ∷ ls) c m h =
    elim (or_cases (cubes_read (outside_of counts c l) m) (cubes_read (parts_outside counts (inside_of counts c l) ls) m) (sym (read-append m (outside_of counts c l) (parts_outside counts (inside_of counts c l) ls)) ∙ h)) [
      | inl r ↦ reads-outside_of counts c ls l m r
      | inr r ↦
          elim (reads-parts_outside counts ls (inside_of counts c l) m r) [
            | inl s ↦ reads_put (record { net = l.net; set = meet (values_left counts c l.net.0) l.set }) c ls m s
            | inr s ↦ inr (or_right (nat_eq l.net.0 m) (cube_reads ls m) s)
          ]
    ]

reads-sharp_of : (counts : List ℕ) (c d : List Lit) (m : ℕ) → cubes_read (sharp_of counts c d) m ≡ true → (cube_reads c m ≡ true) ⊎ (cube_reads d m ≡ true)
unfolding sharp_of
reads-sharp_of counts c d m h =
    elim (cases_Bool (cubes_meet c d)) [
      | inl t ↦ reads-parts_outside counts d c m (rw t at h)
      | inr f ↦
          elim (or_cases (cube_reads c m) false (rw f at h)) [
            | inl r ↦ inl r
            | inr bad ↦ absurd (false≢true bad)
          ]
    ]

reads-sharps_of : (counts : List ℕ) (d : List Lit) (cs : List (List Lit)) (m : ℕ) → cubes_read (sharps_of counts d cs) m ≡ true → (cubes_read cs m ≡ true) ⊎ (cube_reads d m ≡ true)
unfolding sharps_of
reads-sharps_of counts d [] m h = inl h
reads-sharps_of counts d (c ∷ cs) m h =
    elim (or_cases (cubes_read (sharp_of counts c d) m) (cubes_read (flat_map (λ x. sharp_of counts x d) cs) m) (sym (read-append m (sharp_of counts c d) (flat_map (λ x. sharp_of counts x d) cs)) ∙ h)) [
      | inl r ↦
          elim (reads-sharp_of counts c d m r) [
            | inl s ↦ inl (or_left (cube_reads c m) (cubes_read cs m) s)
            | inr s ↦ inr s
          ]
      | inr r ↦
          elim (reads-sharps_of counts d cs m r) [
            | inl s ↦ inl (or_right (cube_reads c m) (cubes_read cs m) s)
            | inr s ↦ inr s
          ]
    ]

reads_from : (counts : List ℕ) (lines : List Line) (cubes : List (List Lit)) (m : ℕ) → cubes_read (fold (λ cs (l : Line). sharps_of counts l.cube cs) cubes lines) m ≡ true → (cubes_read cubes m ≡ true) ⊎ (lines_read lines m ≡ true)
reads_from counts [] cubes m h = inl h
reads_from counts (l ∷ ls) cubes m h =
    elim (reads_from counts ls (sharps_of counts l.cube cubes) m h) [
      | inl r ↦
          elim (reads-sharps_of counts l.cube cubes m r) [
            | inl s ↦ inl s
            | inr s ↦ inr (or_left (cube_reads l.cube m) (lines_read ls m) s)
          ]
      | inr r ↦ inr (or_right (cube_reads l.cube m) (lines_read ls m) r)
    ]

-- the complement reads nothing but what the lines read
pub complement_reads : (counts : List ℕ) (lines : List Line) (m : ℕ) → cubes_read (complement_of counts lines) m ≡ true → lines_read lines m ≡ true
unfolding complement_of
complement_reads counts lines m h =
    elim (reads_from counts lines ([] ∷ []) m h) [
      | inl bad ↦ absurd (false≢true bad)
      | inr r ↦ r
    ]
