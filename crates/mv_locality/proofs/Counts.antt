-- What is made of covers depends on the counts of the nets that they read, and on no other.
use Rattle.std.proofs.Common.{◌≡◌, ◌∙◌, ℕ, ◌<◌, ◌++◌, true, nat_eq, take, zero, suc, Option, Some, None, List, [], ◌∷◌, length, get_or, inl, inr, unwrap_or, refl, ap, subst, eq-eqb, if◌then◌else◌}
use Rattle.std.specs.List.{fold, flat_map}
use Rattle.std.proofs.lemmas.Bool.{false≢true, or_cases, or_left, or_right}
use Rattle.mv_base.specs.Set.{empty, full, meet, minus}
use Rattle.mv_base.specs.declared.limits.TheConstants.{MAX_COMPLEMENT_CUBES}
use Rattle.mv_cover.specs.Literal.{Lit}
use Rattle.mv_cover.specs.declared.line.Line.{Line}
use Rattle.mv_cover.specs.declared.cover.Cover.{Cover}
use Rattle.mv_cover.specs.Covers.{cube_reads, lines_read}
use Rattle.mv_cover.specs.Overlap.{cubes_meet}
use Rattle.mv_cover.specs.Meets.{literal_at}
use Rattle.mv_cover.specs.Sharp.{values_left, with_literal, inside_of, outside_of, parts_outside, sharp_of}
use Rattle.mv_cover.specs.Complement.{sharps_of, complement_of, IsWide, lines_for, default_lines, spelled_of}
use Rattle.mv_cover.specs.Absorb.{absorbed}
use Rattle.mv_composite.specs.declared.inner.Inner.{Inner}
use Rattle.mv_composite.specs.Composite.{lines_given, default_stays, spelled, composed}
use Rattle.mv_composite.specs.Wide.{HasManyLines, HasManyFanins, IsTooWide, default_asked}
use Rattle.mv_composite.specs.Wide.IsTooWide.{ByReader, ByInner, ByLines, ByFanins}
use Rattle.mv_locality.specs.Same.{SameCounts}

-- ---- the sharp

-- each net of the cube's literals has the same count
abbrev OnCube : List ℕ → List ℕ → List Lit → Type 0
OnCube counts others d = (n : ℕ) → cube_reads d n ≡ true → get_or counts n 0 ≡ get_or others n 0

parts_outside-same : (counts others : List ℕ) (d c : List Lit) → OnCube counts others d → parts_outside counts c d ≡ parts_outside others c d
unfolding parts_outside inside_of outside_of
parts_outside-same counts others [] c on = refl
parts_outside-same counts others (l ∷ ls) c on =
    let here : get_or counts l.net.0 0 ≡ get_or others l.net.0 0 = on l.net.0 (or_left (nat_eq l.net.0 l.net.0) (cube_reads ls l.net.0) (eq-eqb l.net.0 l.net.0 refl)) in
    let left : values_left counts c l.net.0 ≡ values_left others c l.net.0 = ap (λ k. unwrap_or (literal_at c l.net.0) (full k)) here in
    let inside = with_literal (record { net = l.net; set = meet (values_left others c l.net.0) l.set }) c in
    let rest = parts_outside-same counts others ls inside (λ n r. on n (or_right (nat_eq l.net.0 n) (cube_reads ls n) r)) in
    ap
    (λ s. (if nat_eq (minus s l.set) empty then [] else with_literal (record { net = l.net; set = minus s l.set }) c ∷ [])
    ++ parts_outside counts (with_literal (record { net = l.net; set = meet s l.set }) c) ls)
    left
    ∙ ap (λ ps. (if nat_eq (minus (values_left others c l.net.0) l.set) empty then [] else with_literal (record { net = l.net; set = minus (values_left others c l.net.0) l.set }) c ∷ []) ++ ps) rest

sharp_of-same : (counts others : List ℕ) (d c : List Lit) → OnCube counts others d → sharp_of counts c d ≡ sharp_of others c d
unfolding sharp_of
sharp_of-same counts others d c on = ap (λ ps. if cubes_meet c d then ps else c ∷ []) (parts_outside-same counts others d c on)

sharps_of-same : (counts others : List ℕ) (d : List Lit) (cubes : List (List Lit)) → OnCube counts others d → sharps_of counts d cubes ≡ sharps_of others d cubes
unfolding sharps_of
sharps_of-same counts others d cubes on = λ i. flat_map (λ c. sharp_of-same counts others d c on i) cubes

-- ---- the complement

fold-same : (counts others : List ℕ) (lines : List Line) (cubes : List (List Lit)) → ((n : ℕ) → lines_read lines n ≡ true → get_or counts n 0 ≡ get_or others n 0)
    → fold (λ cs (l : Line). sharps_of counts l.cube cs) cubes lines ≡ fold (λ cs (l : Line). sharps_of others l.cube cs) cubes lines
fold-same counts others [] cubes on = refl
fold-same counts others (l ∷ ls) cubes on =
    ap (λ cs. fold (λ cs (l : Line). sharps_of counts l.cube cs) cs ls) (sharps_of-same counts others l.cube cubes (λ n r. on n (or_left (cube_reads l.cube n) (lines_read ls n) r)))
    ∙ fold-same counts others ls (sharps_of others l.cube cubes) (λ n r. on n (or_right (cube_reads l.cube n) (lines_read ls n) r))

pub complement_of-same : (counts others : List ℕ) (lines : List Line) → SameCounts counts others lines → complement_of counts lines ≡ complement_of others lines
unfolding complement_of
complement_of-same counts others lines same = fold-same counts others lines ([] ∷ []) same.each

-- the first lines read nothing but what all read
first_read : (k : ℕ) (lines : List Line) (n : ℕ) → lines_read (take k lines) n ≡ true → lines_read lines n ≡ true
first_read zero lines n h = absurd (false≢true h)
first_read (suc k) [] n h = absurd (false≢true h)
first_read (suc k) (l ∷ ls) n h =
    elim (or_cases (cube_reads l.cube n) (lines_read (take k ls) n) h) [
      | inl r ↦ or_left (cube_reads l.cube n) (lines_read ls n) r
      | inr r ↦ or_right (cube_reads l.cube n) (lines_read ls n) (first_read k ls n r)
    ]

pub IsWide-same : (counts others : List ℕ) (lines : List Line) → SameCounts counts others lines → IsWide counts lines → IsWide others lines
IsWide-same counts others lines same wide = record {
  passed = wide.passed;
  many =
      subst (λ (cs : List (List Lit)). MAX_COMPLEMENT_CUBES < length cs)
      (complement_of-same counts others (take wide.passed lines) (record { each = λ n r. same.each n (first_read wide.passed lines n r) })) wide.many;
}

-- ---- the composite

default_lines-same : (counts others : List ℕ) (lines : List Line) (default : Option ℕ) → SameCounts counts others lines → default_lines counts lines default ≡ default_lines others lines default
default_lines-same counts others lines None same = refl
default_lines-same counts others lines (Some out) same = ap (lines_for out) (complement_of-same counts others lines same)

pub spelled_of-same : (counts others : List ℕ) (c : Cover) → SameCounts counts others c.lines → spelled_of counts c ≡ spelled_of others c
unfolding spelled_of
spelled_of-same counts others c same = ap (λ ls. record { lines = c.lines ++ ls; default = None }) (default_lines-same counts others c.lines c.default same)

pub spelled-same : (counts others : List ℕ) (inner : Inner) (reader : Cover) → SameCounts counts others reader.lines → spelled counts inner reader ≡ spelled others inner reader
spelled-same counts others inner reader same = ap (λ (c : Cover). if default_stays inner then reader else c) (spelled_of-same counts others reader same)

pub composed-same : (counts others : List ℕ) (inner : Inner) (reader : Cover) → SameCounts counts others inner.cover.lines → SameCounts counts others reader.lines
    → composed counts inner reader ≡ composed others inner reader
unfolding composed
composed-same counts others inner reader own same =
    let outside = complement_of-same counts others inner.cover.lines own in
    let with_default = spelled-same counts others inner reader same in
    λ i. absorbed (record { lines = lines_given (outside i) inner (with_default i).lines; default = (with_default i).default })

pub IsTooWide-same : (counts others : List ℕ) (inner : Inner) (reader : Cover) → SameCounts counts others inner.cover.lines → SameCounts counts others reader.lines
    → IsTooWide counts inner reader → IsTooWide others inner reader
IsTooWide-same counts others inner reader own same (ByReader w) =
    ByReader (record { stays = w.stays; default = w.default; wide = IsWide-same counts others reader.lines same w.wide })
IsTooWide-same counts others inner reader own same (ByInner w) =
    ByInner (record {
      asked = subst (λ (c : Cover). default_asked inner c.lines ≡ true) (spelled-same counts others inner reader same) w.asked;
      wide = IsWide-same counts others inner.cover.lines own w.wide;
    })
IsTooWide-same counts others inner reader own same (ByLines w) = ByLines (subst (λ (c : Cover). HasManyLines c.lines) (composed-same counts others inner reader own same) w)
IsTooWide-same counts others inner reader own same (ByFanins w) = ByFanins (subst (λ (c : Cover). HasManyFanins c.lines) (composed-same counts others inner reader own same) w)
