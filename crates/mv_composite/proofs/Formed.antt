-- Composites are well formed over the counts.
use Rattle.std.proofs.Common.{◌≡◌, ℕ, Bool, true, false, not, ◌&&◌, Option, Some, None, is_none, All, List, [], ◌∷◌, filter, inl, inr, refl, if◌then◌else◌}
use Rattle.std.specs.List.{flat_map, list_any}
use Rattle.std.proofs.lemmas.Bool.{cases_Bool}
use Rattle.std.proofs.lemmas.List.Elements.{All-nil, All-cons, All-append, All-head, All-tail, All-filter, All-map, All-weaker}
use Rattle.mv_cover.specs.Literal.{Lit}
use Rattle.mv_cover.specs.declared.line.Line.{Line}
use Rattle.mv_cover.specs.declared.cover.Cover.{Cover}
use Rattle.mv_cover.specs.Cubes.{IsCube}
use Rattle.mv_cover.specs.Meets.{literal_at, met}
use Rattle.mv_cover.specs.Cofactors.{cube_without, cubes_of}
use Rattle.mv_cover.specs.Lines.{IsOutput, lines_differ}
use Rattle.mv_cover.specs.Sharp.{IsCubeOver}
use Rattle.mv_cover.specs.Complement.{complement_of, lines_for, default_lines, spelled_of}
use Rattle.mv_cover.specs.Absorb.{firsts, left_of, swallowed_by, some_bare, default_beside, absorbed}
use Rattle.mv_cover.proofs.Absorbing.{all-firsts}
use Rattle.mv_cover.proofs.Differing.{differ-filtered, differ-firsts}
use Rattle.mv_composite.specs.declared.inner.Inner.{Inner}
use Rattle.mv_composite.specs.Inside.{AreCubesOver, AreOutputs, IsCoverOver, IsInner}
use Rattle.mv_composite.specs.Composite.{set_meets, default_meets, cubes_giving, line_given, lines_given, default_stays, spelled, composed}
use Rattle.mv_composite.proofs.Cubes.{All-flat_map, over-without, over-met}
use Rattle.mv_composite.proofs.Outside.{complement_over}

-- cubes over the counts are cubes
pub are_cubes : (counts : List ℕ) (ls : List Line) → AreCubesOver counts ls → All (λ (l : Line). IsCube l.cube) ls
are_cubes counts ls over = All-weaker (λ (l : Line). IsCubeOver counts l.cube) (λ (l : Line). IsCube l.cube) (λ l it. it.cube) ls over

-- ---- absorbing

pub all_left : (P : Line → Type 0) (ls : List Line) → All P ls → All P (left_of ls)
unfolding left_of
all_left P ls all = All-filter (λ (l : Line). not (list_any (swallowed_by l) (firsts ls))) P (firsts ls) (all-firsts P ls all)

pub differ_left : (ls : List Line) → lines_differ (left_of ls) ≡ true
unfolding left_of
differ_left ls = differ-filtered (λ (l : Line). not (list_any (swallowed_by l) (firsts ls))) (firsts ls) (differ-firsts ls)

default_from : (ls : List Line) (d : Option ℕ) (out : ℕ) → default_beside ls d ≡ Some out → d ≡ Some out
default_from ls d out e =
    elim (cases_Bool (some_bare ls)) [
      | inl t ↦ let bad : None ≡ Some out = rw t at e in absurd (cc)
      | inr f ↦ rw f at e
    ]

-- absorbing makes a cover well formed
pub over-absorbed : (counts : List ℕ) (values : ℕ) (c : Cover) → AreCubesOver counts c.lines → AreOutputs values c.lines → ((out : ℕ) → c.default ≡ Some out → IsOutput values out) → IsCoverOver counts values (absorbed c)
unfolding absorbed
over-absorbed counts values c cubes outputs default = record {
  cubes = all_left (λ (l : Line). IsCubeOver counts l.cube) c.lines cubes;
  outputs = all_left (λ (l : Line). IsOutput values l.out) c.lines outputs;
  differ = differ_left c.lines;
  default = λ out e. default out (default_from (left_of c.lines) c.default out e);
  met = λ h. rw h refl;
}

-- ---- lines of cubes

pub over-lines_for : (counts : List ℕ) (out : ℕ) (cs : List (List Lit)) → All (IsCubeOver counts) cs → AreCubesOver counts (lines_for out cs)
over-lines_for counts out cs over = All-map (λ (l : Line). IsCubeOver counts l.cube) (λ (c : List Lit). record { cube = c; out = out }) cs over

pub outputs-lines_for : (values out : ℕ) (cs : List (List Lit)) → IsOutput values out → AreOutputs values (lines_for out cs)
outputs-lines_for values out cs is = All-map (λ (l : Line). IsOutput values l.out) (λ (c : List Lit). record { cube = c; out = out }) cs (λ k d low. is)

-- the cubes of lines
pub over-cubes_of : (counts : List ℕ) (ls : List Line) → AreCubesOver counts ls → All (IsCubeOver counts) (cubes_of ls)
over-cubes_of counts [] over = All-nil (IsCubeOver counts)
over-cubes_of counts (l ∷ ls) over =
    All-cons (IsCubeOver counts) l.cube (cubes_of ls) (All-head (λ (m : Line). IsCubeOver counts m.cube) l ls over) (over-cubes_of counts ls (All-tail (λ (m : Line). IsCubeOver counts m.cube) l ls over))

over-if : (counts : List ℕ) (b : Bool) (cs : List (List Lit)) → All (IsCubeOver counts) cs → All (IsCubeOver counts) (if b then cs else [])
over-if counts true cs over = over
over-if counts false cs over = All-nil (IsCubeOver counts)

pub over-cubes_giving : (counts : List ℕ) (outside : List (List Lit)) (c : Cover) (asked : Option ℕ) → AreCubesOver counts c.lines → All (IsCubeOver counts) outside → All (IsCubeOver counts) (cubes_giving outside c asked)
over-cubes_giving counts outside c asked own over =
    All-append (IsCubeOver counts) (cubes_of (filter (λ (l : Line). set_meets asked l.out) c.lines)) (if default_meets c.default asked then outside else [])
    (over-cubes_of counts (filter (λ (l : Line). set_meets asked l.out) c.lines) (All-filter (λ (l : Line). set_meets asked l.out) (λ (l : Line). IsCubeOver counts l.cube) c.lines own))
    (over-if counts (default_meets c.default asked) outside over)

-- ---- what lines give

over-line_given : (counts : List ℕ) (outside : List (List Lit)) (inner : Inner) → AreCubesOver counts inner.cover.lines → All (IsCubeOver counts) outside → (l : Line) → IsCubeOver counts l.cube → AreCubesOver counts (line_given outside inner l)
unfolding line_given
over-line_given counts outside inner own over l is =
    let P = λ (m : Line). IsCubeOver counts m.cube in
    let n = inner.net.0 in
    elim (cases_Bool (inner.total && is_none (literal_at l.cube n))) [
      | inl t ↦ rw t (All-cons P l [] is (All-nil P))
      | inr f ↦
          rw f
          (over-lines_for counts l.out (flat_map (met (cube_without n l.cube)) (cubes_giving outside inner.cover (literal_at l.cube n)))
          (All-flat_map (IsCubeOver counts) (IsCubeOver counts) (met (cube_without n l.cube)) (λ k it. over-met counts (cube_without n l.cube) k (over-without counts n l.cube is) it)
          (cubes_giving outside inner.cover (literal_at l.cube n))
          (over-cubes_giving counts outside inner.cover (literal_at l.cube n) own over)))
    ]

pub over-lines_given : (counts : List ℕ) (outside : List (List Lit)) (inner : Inner) (ls : List Line) → AreCubesOver counts inner.cover.lines → All (IsCubeOver counts) outside → AreCubesOver counts ls → AreCubesOver counts (lines_given outside inner ls)
over-lines_given counts outside inner ls own over are =
    All-flat_map (λ (l : Line). IsCubeOver counts l.cube) (λ (l : Line). IsCubeOver counts l.cube) (line_given outside inner) (over-line_given counts outside inner own over) ls are

outputs-line_given : (values : ℕ) (outside : List (List Lit)) (inner : Inner) (l : Line) → IsOutput values l.out → AreOutputs values (line_given outside inner l)
unfolding line_given
outputs-line_given values outside inner l is =
    let P = λ (m : Line). IsOutput values m.out in
    let n = inner.net.0 in
    elim (cases_Bool (inner.total && is_none (literal_at l.cube n))) [
      | inl t ↦ rw t (All-cons P l [] is (All-nil P))
      | inr f ↦ rw f (outputs-lines_for values l.out (flat_map (met (cube_without n l.cube)) (cubes_giving outside inner.cover (literal_at l.cube n))) is)
    ]

outputs-lines_given : (values : ℕ) (outside : List (List Lit)) (inner : Inner) (ls : List Line) → AreOutputs values ls → AreOutputs values (lines_given outside inner ls)
outputs-lines_given values outside inner ls are =
    All-flat_map (λ (l : Line). IsOutput values l.out) (λ (l : Line). IsOutput values l.out) (line_given outside inner) (outputs-line_given values outside inner) ls are

-- ---- the reader with its default spelled out

over-default_lines : (counts : List ℕ) (lines : List Line) (default : Option ℕ) → AreCubesOver counts lines → AreCubesOver counts (default_lines counts lines default)
over-default_lines counts lines None are = All-nil (λ (l : Line). IsCubeOver counts l.cube)
over-default_lines counts lines (Some out) are = over-lines_for counts out (complement_of counts lines) (complement_over counts lines are)

outputs-default_lines : (counts : List ℕ) (values : ℕ) (lines : List Line) (default : Option ℕ) → ((out : ℕ) → default ≡ Some out → IsOutput values out) → AreOutputs values (default_lines counts lines default)
outputs-default_lines counts values lines None each = All-nil (λ (l : Line). IsOutput values l.out)
outputs-default_lines counts values lines (Some out) each = outputs-lines_for values out (complement_of counts lines) (each out refl)

-- a cover that stays or is spelled out
pub record IsOver (counts : List ℕ) (values : ℕ) (c : Cover) : Type 0 where
  pub cubes : AreCubesOver counts c.lines
  pub outputs : AreOutputs values c.lines
  pub default : (out : ℕ) → c.default ≡ Some out → IsOutput values out

pub over-spelled_of : (counts : List ℕ) (c : Cover) → AreCubesOver counts c.lines → AreCubesOver counts (spelled_of counts c).lines
unfolding spelled_of
over-spelled_of counts c are =
    All-append (λ (l : Line). IsCubeOver counts l.cube) c.lines (default_lines counts c.lines c.default) are (over-default_lines counts c.lines c.default are)

is_over-spelled_of : (counts : List ℕ) (values : ℕ) (c : Cover) → IsOver counts values c → IsOver counts values (spelled_of counts c)
unfolding spelled_of
is_over-spelled_of counts values c is = record {
  cubes = over-spelled_of counts c is.cubes;
  outputs =
      All-append (λ (l : Line). IsOutput values l.out) c.lines (default_lines counts c.lines c.default) is.outputs
      (outputs-default_lines counts values c.lines c.default is.default);
  default = λ out e. absurd (cc);
}

pub over-spelled : (counts : List ℕ) (inner : Inner) (reader : Cover) → AreCubesOver counts reader.lines → AreCubesOver counts (spelled counts inner reader).lines
over-spelled counts inner reader are =
    elim (cases_Bool (default_stays inner)) [
      | inl t ↦ rw t are
      | inr f ↦ rw f (over-spelled_of counts reader are)
    ]

is_over-spelled : (counts : List ℕ) (values : ℕ) (inner : Inner) (reader : Cover) → IsOver counts values reader → IsOver counts values (spelled counts inner reader)
is_over-spelled counts values inner reader is =
    elim (cases_Bool (default_stays inner)) [
      | inl t ↦ rw t is
      | inr f ↦ rw f (is_over-spelled_of counts values reader is)
    ]

-- ---- the composite

-- the composite of well-formed covers is well formed
pub composed_over : (counts : List ℕ) (values : ℕ) (inner : Inner) (reader : Cover) → IsInner counts inner → IsCoverOver counts values reader → IsCoverOver counts values (composed counts inner reader)
unfolding composed
composed_over counts values inner reader is over =
    let t = spelled counts inner reader in
    let outside = complement_of counts inner.cover.lines in
    let own = is_over-spelled counts values inner reader (record { cubes = over.cubes; outputs = over.outputs; default = over.default }) in
    over-absorbed counts values (record { lines = lines_given outside inner t.lines; default = t.default })
    (over-lines_given counts outside inner t.lines is.cover.cubes (complement_over counts inner.cover.lines is.cover.cubes) own.cubes)
    (outputs-lines_given values outside inner t.lines own.outputs) own.default
