-- What the sharps of cubes read: only what the cubes read.
use Rattle.std.proofs.Common.{◌≡◌, ◌∙◌, ◌⊎◌, ℕ, Bool, true, false, ◌||◌, List, [], ◌∷◌, ◌++◌, nat_eq, inl, inr, refl, sym, ap, flat_map, fold}
use Rattle.std.proofs.lemmas.Bool.{cases_Bool, false≢true, or_cases, or_left, or_right}
use Rattle.mv_base.specs.Set.{empty, meet, minus}
use Rattle.mv_cover.specs.Literal.{Lit}
use Rattle.mv_cover.specs.declared.line.Line.{Line}
use Rattle.mv_cover.specs.Cofactors.{cubes_read}
use Rattle.mv_cover.specs.Complement.{lines_for, sharps_of}
use Rattle.mv_cover.specs.Covers.{cube_reads, lines_read}
use Rattle.mv_cover.specs.Overlap.{cubes_meet}
use Rattle.mv_cover.specs.Sharp.{inside_of, outside_of, parts_outside, sharp_of, values_left, with_literal}
use Rattle.mv_cover.proofs.Sharps.{reads-with_literal}
use Rattle.mv_composite.proofs.Cubes.{read-append}
use Rattle.mv_determine.specs.Determined.{cubes_outside}

or_first : (a b c : Bool) → (a || (b || c)) ≡ ((a || b) || c)
or_first true b c = refl
or_first false b c = refl

pub lines_read-append : (m : ℕ) (xs ys : List Line) → lines_read (xs ++ ys) m ≡ (lines_read xs m || lines_read ys m)
lines_read-append m [] ys = refl
lines_read-append m (x ∷ xs) ys = ap (λ b. cube_reads x.cube m || b) (lines_read-append m xs ys) ∙ or_first (cube_reads x.cube m) (lines_read xs m) (lines_read ys m)

pub lines_read-for : (m out : ℕ) (cs : List (List Lit)) → lines_read (lines_for out cs) m ≡ cubes_read cs m
lines_read-for m out [] = refl
lines_read-for m out (c ∷ cs) = ap (λ b. cube_reads c m || b) (lines_read-for m out cs)

-- ---- one sharp

reads_put : (l : Lit) (c d : List Lit) (m : ℕ) → cube_reads (with_literal l c) m ≡ true → (cube_reads c m ≡ true) ⊎ (cube_reads (l ∷ d) m ≡ true)
reads_put l c d m h =
    elim (reads-with_literal l c m h) [
      | inl t ↦ inr (or_left (nat_eq l.net.0 m) (cube_reads d m) t)
      | inr r ↦ inl r
    ]

reads-outside_of : (counts : List ℕ) (c d : List Lit) (l : Lit) (m : ℕ) → cubes_read (outside_of counts c l) m ≡ true → (cube_reads c m ≡ true) ⊎ (cube_reads (l ∷ d) m ≡ true)
unfolding outside_of
reads-outside_of counts c d l m h =
    elim (cases_Bool (nat_eq (minus (values_left counts c l.net.0) l.set) empty)) [
      | inl t ↦ absurd (false≢true (rw t at h))
      | inr f ↦
          elim (or_cases (cube_reads (with_literal (record { net = l.net; set = minus (values_left counts c l.net.0) l.set }) c) m) false (rw f at h)) [
            | inl r ↦ reads_put (record { net = l.net; set = minus (values_left counts c l.net.0) l.set }) c d m r
            | inr bad ↦ absurd (false≢true bad)
          ]
    ]

reads-parts_outside : (counts : List ℕ) (d c : List Lit) (m : ℕ) → cubes_read (parts_outside counts c d) m ≡ true → (cube_reads c m ≡ true) ⊎ (cube_reads d m ≡ true)
unfolding parts_outside inside_of
reads-parts_outside counts [] c m h = absurd (false≢true h)
reads-parts_outside counts (l ∷ ls) c m h =
    elim (or_cases (cubes_read (outside_of counts c l) m) (cubes_read (parts_outside counts (inside_of counts c l) ls) m) (sym (read-append m (outside_of counts c l) (parts_outside counts (inside_of counts c l) ls)) ∙ h)) [
      | inl r ↦ reads-outside_of counts c ls l m r
      | inr r ↦
          elim (reads-parts_outside counts ls (inside_of counts c l) m r) [
            | inl s ↦ reads_put (record { net = l.net; set = meet (values_left counts c l.net.0) l.set }) c ls m s
            | inr s ↦ inr (or_right (nat_eq l.net.0 m) (cube_reads ls m) s)
          ]
    ]

reads-sharp_of : (counts : List ℕ) (c d : List Lit) (m : ℕ) → cubes_read (sharp_of counts c d) m ≡ true → (cube_reads c m ≡ true) ⊎ (cube_reads d m ≡ true)
unfolding sharp_of
reads-sharp_of counts c d m h =
    elim (cases_Bool (cubes_meet c d)) [
      | inl t ↦ reads-parts_outside counts d c m (rw t at h)
      | inr f ↦
          elim (or_cases (cube_reads c m) false (rw f at h)) [
            | inl r ↦ inl r
            | inr bad ↦ absurd (false≢true bad)
          ]
    ]

-- ---- sharps line by line

reads-sharps_of : (counts : List ℕ) (d : List Lit) (cs : List (List Lit)) (m : ℕ) → cubes_read (sharps_of counts d cs) m ≡ true → (cubes_read cs m ≡ true) ⊎ (cube_reads d m ≡ true)
unfolding sharps_of
reads-sharps_of counts d [] m h = inl h
reads-sharps_of counts d (c ∷ cs) m h =
    elim (or_cases (cubes_read (sharp_of counts c d) m) (cubes_read (flat_map (λ x. sharp_of counts x d) cs) m) (sym (read-append m (sharp_of counts c d) (flat_map (λ x. sharp_of counts x d) cs)) ∙ h)) [
      | inl r ↦
          elim (reads-sharp_of counts c d m r) [
            | inl s ↦ inl (or_left (cube_reads c m) (cubes_read cs m) s)
            | inr s ↦ inr s
          ]
      | inr r ↦
          elim (reads-sharps_of counts d cs m r) [
            | inl s ↦ inl (or_right (cube_reads c m) (cubes_read cs m) s)
            | inr s ↦ inr s
          ]
    ]

reads_from : (counts : List ℕ) (lines : List Line) (cubes : List (List Lit)) (m : ℕ) → cubes_read (fold (λ cs (l : Line). sharps_of counts l.cube cs) cubes lines) m ≡ true → (cubes_read cubes m ≡ true) ⊎ (lines_read lines m ≡ true)
reads_from counts [] cubes m h = inl h
reads_from counts (l ∷ ls) cubes m h =
    elim (reads_from counts ls (sharps_of counts l.cube cubes) m h) [
      | inl r ↦
          elim (reads-sharps_of counts l.cube cubes m r) [
            | inl s ↦ inl s
            | inr s ↦ inr (or_left (cube_reads l.cube m) (lines_read ls m) s)
          ]
      | inr r ↦ inr (or_right (cube_reads l.cube m) (lines_read ls m) r)
    ]

-- what of a cube lies outside lines reads nothing but what the cube and the lines read
pub reads_outside : (counts : List ℕ) (lines : List Line) (c : List Lit) (m : ℕ) → cubes_read (cubes_outside counts lines c) m ≡ true → (cube_reads c m ≡ true) ⊎ (lines_read lines m ≡ true)
unfolding cubes_outside
reads_outside counts lines c m h =
    elim (reads_from counts lines (c ∷ []) m h) [
      | inl r ↦
          elim (or_cases (cube_reads c m) false r) [
            | inl s ↦ inl s
            | inr bad ↦ absurd (false≢true bad)
          ]
      | inr r ↦ inr r
    ]
