-- Composites that are too wide: of a complement that they make use of, or of the result.
use Rattle.std.specs.Prelude.{◌≡◌, ◌<◌, ℕ, Bool, true, false, List, length, map, IsSome}
use Rattle.std.specs.List.{list_any, flat_map}
use Rattle.mv_base.specs.Firsts.{firsts_by}
use Rattle.std.specs.Prelude.{nat_eq}
use Rattle.mv_base.specs.declared.limits.TheConstants.{MAX_COMPOSED_LINES, MAX_FANINS}
use Rattle.mv_cover.specs.Literal.{Lit}
use Rattle.mv_cover.specs.declared.line.Line.{Line}
use Rattle.mv_cover.specs.declared.cover.Cover.{Cover}
use Rattle.mv_cover.specs.Meets.{literal_at}
use Rattle.mv_cover.specs.Complement.{IsWide}
use Rattle.mv_composite.specs.declared.inner.Inner.{Inner}
use Rattle.mv_composite.specs.Composite.{default_meets, default_stays, spelled, composed}

-- the numbers of the nets that the cube has literals on
abbrev pub cube_nets : List Lit → List ℕ
cube_nets cube = map (λ (l : Lit). l.net.0) cube

-- the numbers of the nets that the lines have literals on, each once
abbrev pub fanins : List Line → List ℕ
fanins lines = firsts_by nat_eq (flat_map (λ (l : Line). cube_nets l.cube) lines)

-- some line asks for a value that the net's default has
abbrev pub default_asked : Inner → List Line → Bool
default_asked inner lines =
    list_any (λ (l : Line). default_meets inner.cover.default (literal_at l.cube inner.net.0)) lines

-- the reader's default has to be spelled out, and its lines' complement is too wide
pub record IsReaderWide (counts : List ℕ) (inner : Inner) (reader : Cover) : Type 0 where
  pub stays : default_stays inner ≡ false
  pub default : IsSome reader.default
  pub wide : IsWide counts reader.lines

-- the net's default is asked for, and the complement of the net's lines is too wide
pub record IsInnerWide (counts : List ℕ) (inner : Inner) (lines : List Line) : Type 0 where
  pub asked : default_asked inner lines ≡ true
  pub wide : IsWide counts inner.cover.lines

-- there are more lines than a composite may have
pub record HasManyLines (lines : List Line) : Type 0 where
  pub many : MAX_COMPOSED_LINES < length lines

-- there are more fanins than a composite may have
pub record HasManyFanins (lines : List Line) : Type 0 where
  pub many : MAX_FANINS < length (fanins lines)

-- the composite is too wide
pub data IsTooWide (counts : List ℕ) (inner : Inner) (reader : Cover) : Type 0 where
  ByReader : IsReaderWide counts inner reader → IsTooWide counts inner reader
  ByInner : IsInnerWide counts inner (spelled counts inner reader).lines
      → IsTooWide counts inner reader
  ByLines : HasManyLines (composed counts inner reader).lines → IsTooWide counts inner reader
  ByFanins : HasManyFanins (composed counts inner reader).lines → IsTooWide counts inner reader
