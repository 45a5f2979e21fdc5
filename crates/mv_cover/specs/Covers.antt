-- The relation of a cover, after the description of BLIF-MV: lines that match together are each
-- allowed.
use Rattle.std.specs.Prelude.{ℕ, ◌+◌, Bool, false, ◌&&◌, ◌||◌, not, nat_eq, Option, Some, None, List, [], ◌∷◌, length}
use Rattle.std.specs.List.{list_any}
use Rattle.mv_base.specs.Set.{has}
use Rattle.mv_cover.specs.Literal.{Lit}
use Rattle.mv_cover.specs.declared.line.Line.{Line}
use Rattle.mv_cover.specs.declared.cover.Cover.{Cover}
use Rattle.mv_cover.specs.Cubes.{matches}

-- some line's cube holds
abbrev pub some_matches : (ℕ → ℕ) → List Line → Bool
some_matches at [] = false
some_matches at (l ∷ ls) = matches at l.cube || some_matches at ls

-- some line whose cube holds gives this value
abbrev pub some_gives : (ℕ → ℕ) → ℕ → List Line → Bool
some_gives at value [] = false
some_gives at value (l ∷ ls) = (matches at l.cube && has l.out value) || some_gives at value ls

-- the default gives this value
abbrev pub default_gives : Option ℕ → ℕ → Bool
default_gives None value = false
default_gives (Some out) value = has out value

-- the cover allows this value where the fanins have the values of the assignment
unfoldable pub allowed : Cover → (ℕ → ℕ) → ℕ → Bool
allowed c at value = some_gives at value c.lines
    || (not (some_matches at c.lines) && default_gives c.default value)

-- the literals of the lines, each of which counts one
abbrev pub literal_count : List Line → ℕ
literal_count [] = 0
literal_count (l ∷ ls) = length l.cube + literal_count ls

-- the cube has a literal on this net
abbrev pub cube_reads : List Lit → ℕ → Bool
cube_reads cube n = list_any (λ l. nat_eq l.net.0 n) cube

-- some line's cube has a literal on this net
abbrev pub lines_read : List Line → ℕ → Bool
lines_read [] n = false
lines_read (l ∷ ls) n = cube_reads l.cube n || lines_read ls n

-- some line of the cover has a literal on this net
abbrev pub cover_reads : Cover → ℕ → Bool
cover_reads c n = lines_read c.lines n
