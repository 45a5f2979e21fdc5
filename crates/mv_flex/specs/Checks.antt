-- What is asked of lines and covers at the numbers of pairs and points. What private functions
-- alone cite.
use Rattle.std.specs.Prelude.{◌≡◌, ℕ, ◌<◌, Bool, true, false, ◌&&◌, ◌||◌, not, nat_eq, if◌then◌else◌, Option, Some, None, slice_index_or}
use Rattle.std.specs.List.{list_any}
use Rattle.mv_base.specs.Set.{has, one, empty}
use Rattle.mv_cover.specs.declared.line.Line.{Line}
use Rattle.mv_cover.specs.declared.cover.Cover.{Cover}
use Rattle.mv_cover.specs.Cubes.{matches}
use Rattle.mv_cover.specs.Covers.{allowed}
use Rattle.mv_flex.specs.declared.flexibility.Flexibility.{Flexibility}
use Rattle.mv_flex.specs.Spaces.{value_at, digits}
use Rattle.mv_flex.specs.Flex.{literals_beside}

-- the default is a set of some values
abbrev pub default_chooses : Option ℕ → Bool
default_chooses None = false
default_chooses (Some out) = not (nat_eq out empty)

-- the cover allows some value: that of a line that holds, or of the default where no line does
abbrev pub chooses : Cover → (ℕ → ℕ) → Bool
chooses c at = list_any (λ (l : Line). matches at l.cube && not (nat_eq l.out empty)) c.lines
    || (not (list_any (λ (l : Line). matches at l.cube) c.lines) && default_chooses c.default)

-- the assignment of a pair
abbrev pub pair_values : Flexibility → ℕ → ℕ → ℕ
pair_values f q = value_at f.pairs.nets (digits f.pairs.counts q)

-- the assignment of a point of the fanins
abbrev pub point_values : Flexibility → ℕ → ℕ → ℕ
point_values f k = value_at f.fanins.nets (digits f.fanins.counts k)

-- the line's cube holds at the pair, and its output has the pair's value
abbrev pub line_allows : Flexibility → Line → ℕ → Bool
line_allows f l q = matches (pair_values f q) l.cube && has l.out (pair_values f q f.net.0)

-- the cover allows the pair
abbrev pub cover_allows : Flexibility → Cover → ℕ → Bool
cover_allows f c q = allowed c (pair_values f q) (pair_values f q f.net.0)

-- the new cover allows nothing at the point, and the old one something
abbrev pub loses : Flexibility → Cover → ℕ → Bool
loses f new k = chooses f.old (point_values f k) && not (chooses new (point_values f k))

-- the pair is outside, and but for its value of m it is one of the line's
abbrev pub blocks : Flexibility → Line → ℕ → ℕ → Bool
blocks f l m q = slice_index_or f.outside q false
    && (matches (pair_values f q) (literals_beside m l.cube) && has l.out (pair_values f q f.net.0))

-- the pair's value of m where it blocks that value
abbrev pub blocked_at : Flexibility → Line → ℕ → ℕ → ℕ
blocked_at f l m q = if blocks f l m q then one (pair_values f q m) else empty

-- one of the first pairs blocks the value u of m
pub record IsBlocked (f : Flexibility) (l : Line) (m k u : ℕ) : Type 0 where
  pub pair : ℕ
  pub low : pair < k
  pub blocking : blocks f l m pair ≡ true
  pub value : pair_values f pair m ≡ u

-- these are the values of m that the first pairs block
pub record AreBlocked (f : Flexibility) (l : Line) (m k set : ℕ) : Type 0 where
  pub only : (u : ℕ) → has set u ≡ true → IsBlocked f l m k u
  pub all : (u : ℕ) → IsBlocked f l m k u → has set u ≡ true

-- the line allows a pair outside
pub record LineOutside (f : Flexibility) (l : Line) : Type 0 where
  pub pair : ℕ
  pub outside : slice_index_or f.outside pair false ≡ true
  pub allows : line_allows f l pair ≡ true

-- the cover allows a pair outside
pub record CoverOutside (f : Flexibility) (c : Cover) : Type 0 where
  pub pair : ℕ
  pub outside : slice_index_or f.outside pair false ≡ true
  pub allows : cover_allows f c pair ≡ true

-- the new cover allows nothing at some point, and the old one something
pub record LosesSome (f : Flexibility) (new : Cover) : Type 0 where
  pub point : ℕ
  pub low : point < f.fanins.size
  pub lost : loses f new point ≡ true
