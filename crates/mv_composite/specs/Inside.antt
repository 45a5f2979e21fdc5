-- Covers over the counts of the nets' values, and what is asked of a net that is put in.
use Rattle.std.specs.Prelude.{◌≡◌, ℕ, true, Some, None, List, All, MatchBool, slice_index}
use Rattle.mv_cover.specs.declared.line.Line.{Line}
use Rattle.mv_cover.specs.declared.cover.Cover.{Cover}
use Rattle.mv_cover.specs.Cubes.{IsCube}
use Rattle.mv_cover.specs.Covers.{allowed}
use Rattle.mv_cover.specs.Covering.{IsPoint}
use Rattle.mv_cover.specs.Lines.{IsOutput, lines_differ}
use Rattle.mv_cover.specs.Absorb.{some_bare}
use Rattle.mv_cover.specs.Plain.{IsPlainlyDeterministic}
use Rattle.mv_cover.specs.Sharp.{IsCubeOver}
use Rattle.mv_composite.specs.declared.inner.Inner.{Inner}

-- each line's literals are a cube
abbrev pub AreCubes : List Line → Type 0
AreCubes lines = All (λ (l : Line). IsCube l.cube) lines

-- each line's literals are a cube that suits the counts
abbrev pub AreCubesOver : List ℕ → List Line → Type 0
AreCubesOver counts lines = All (λ (l : Line). IsCubeOver counts l.cube) lines

-- each line gives some of so many values
abbrev pub AreOutputs : ℕ → List Line → Type 0
AreOutputs values lines = All (λ (l : Line). IsOutput values l.out) lines

-- a well-formed cover over the counts, whose output has so many values
pub record IsCoverOver (counts : List ℕ) (values : ℕ) (c : Cover) : Type 0 where
  pub cubes : AreCubesOver counts c.lines
  pub outputs : AreOutputs values c.lines
  pub differ : lines_differ c.lines ≡ true
  pub default : (out : ℕ) → c.default ≡ Some out → IsOutput values out
  pub met : some_bare c.lines ≡ true → c.default ≡ None

-- the cover allows some value at every point
pub record AllowsAtEach (counts : List ℕ) (c : Cover) : Type 0 where
  pub some : (at : ℕ → ℕ) → IsPoint counts at → (w : ℕ) × (allowed c at w ≡ true)

-- the net's table is well formed, its output has the net's values, and what is known of it is so
pub record IsInner (counts : List ℕ) (inner : Inner) : Type 0 where
  pub cover : IsCoverOver counts (slice_index counts inner.net.0) inner.cover
  pub total : MatchBool inner.total (AllowsAtEach counts inner.cover)
      (AllowsAtEach counts inner.cover → ⊥)
  pub plain : MatchBool inner.plain (IsPlainlyDeterministic inner.cover)
      (IsPlainlyDeterministic inner.cover → ⊥)
