-- The composite of a reader's table for a net: the net's own table put in for the net.
use Rattle.std.specs.Prelude.{◌≡◌, ◌↔◌, ◌⊎◌, ℕ, Bool, true, false, ◌&&◌, not, nat_eq, Option, Some, None, is_none, List, [], ◌∷◌, ◌++◌, filter, if◌then◌else◌}
use Rattle.std.specs.List.{flat_map}
use Rattle.mv_base.specs.Set.{meet, empty}
use Rattle.mv_cover.specs.Literal.{Lit}
use Rattle.mv_cover.specs.declared.line.Line.{Line}
use Rattle.mv_cover.specs.declared.cover.Cover.{Cover}
use Rattle.mv_cover.specs.Meets.{literal_at, met}
use Rattle.mv_cover.specs.Covers.{allowed, cover_reads}
use Rattle.mv_cover.specs.Covering.{IsPoint, changed}
use Rattle.mv_cover.specs.Cofactors.{cube_without, cubes_of}
use Rattle.mv_cover.specs.Complement.{complement_of, lines_for, spelled_of}
use Rattle.mv_cover.specs.Absorb.{absorbed}
use Rattle.mv_composite.specs.declared.inner.Inner.{Inner}

-- the set has a value that is asked for; where none is, any will do
abbrev pub set_meets : Option ℕ → ℕ → Bool
set_meets None out = true
set_meets (Some set) out = not (nat_eq (meet out set) empty)

-- the default, if there is one, has a value of the set that is asked for
abbrev pub default_meets : Option ℕ → Option ℕ → Bool
default_meets default None = false
default_meets None (Some set) = false
default_meets (Some out) (Some set) = not (nat_eq (meet out set) empty)

-- where the net may have a value that is asked for, as cubes: those of the lines that give one, and
-- where its default gives one the cubes outside all lines
abbrev pub cubes_giving : List (List Lit) → Cover → Option ℕ → List (List Lit)
cubes_giving outside c asked = cubes_of (filter (λ (l : Line). set_meets asked l.out) c.lines)
    ++ (if default_meets c.default asked then outside else [])

-- what a reader's line gives: itself where it asks nothing of a total net; else its other literals,
-- met with each cube where the net may have a value that it asks for
unfoldable pub line_given : List (List Lit) → Inner → Line → List Line
line_given outside inner l =
    if inner.total && is_none (literal_at l.cube inner.net.0) then l ∷ []
    else lines_for l.out
    (flat_map (met (cube_without inner.net.0 l.cube))
    (cubes_giving outside inner.cover (literal_at l.cube inner.net.0)))

-- what the lines give, where these are the cubes outside all lines of the net
abbrev pub lines_given : List (List Lit) → Inner → List Line → List Line
lines_given outside inner lines = flat_map (line_given outside inner) lines

-- the reader's default can stay: at each point the net has exactly one value
abbrev pub default_stays : Inner → Bool
default_stays inner = inner.total && inner.plain

-- the reader, with its default spelled out where it can't stay
abbrev pub spelled : List ℕ → Inner → Cover → Cover
spelled counts inner reader = if default_stays inner then reader else spelled_of counts reader

-- the composite: what the lines give, with the default that has stayed, absorbed
unfoldable pub composed : List ℕ → Inner → Cover → Cover
composed counts inner reader = absorbed (record {
  lines = lines_given (complement_of counts inner.cover.lines) inner
      (spelled counts inner reader).lines;
  default = (spelled counts inner reader).default;
})

-- c allows what the reader allows with some value on the net n that the net's own cover allows
pub record Composes (counts : List ℕ) (n : ℕ) (inner reader c : Cover) : Type 0 where
  pub each : (at : ℕ → ℕ) → IsPoint counts at → (v : ℕ)
      → (allowed c at v ≡ true)
      ↔ ((w : ℕ) × (allowed inner at w ≡ true) × (allowed reader (changed n w at) v ≡ true))

-- c reads what the reader reads, but the net n, and what the net's own cover reads
pub record ReadsThrough (n : ℕ) (inner reader c : Cover) : Type 0 where
  pub only : (m : ℕ) → cover_reads c m ≡ true
      → ((cover_reads reader m ≡ true) × (nat_eq m n ≡ false)) ⊎ (cover_reads inner m ≡ true)
