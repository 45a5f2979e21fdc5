-- Where the lines of a cover have to match so that it is lawful. What private functions alone cite.
use Rattle.std.specs.Prelude.{◌≡◌, ℕ, ◌-◌, ◌<◌, Bool, true, false, ◌&&◌, if◌then◌else◌, Option, List, [], ◌∷◌, ◌++◌, map, drop, count_by, slice_index_or}
use Rattle.std.specs.List.{list_all, list_any}
use Rattle.mv_base.specs.declared.number.NetId.{NetId}
use Rattle.mv_cover.specs.declared.line.Line.{Line}
use Rattle.mv_cover.specs.Cubes.{matches}
use Rattle.mv_cover.specs.Covers.{default_gives}
use Rattle.mv_flex.specs.declared.flexibility.Flexibility.{Flexibility}
use Rattle.mv_flex.specs.Left.{AreLeft}
use Rattle.mv_flex.specs.Spaces.{value_at, digits, NetSpace}
use Rattle.mv_flex.specs.Checks.{chooses, default_chooses}

-- the places to be matched are among the pairs where the default has some value, and else among the
-- points of the fanins
abbrev pub space_for : Flexibility → Option ℕ → NetSpace
space_for f default = if default_chooses default then f.pairs else f.fanins

-- the values of the place with this number
abbrev pub place : Flexibility → Option ℕ → ℕ → List ℕ
place f default k = digits (space_for f default).counts k

-- some line has to match there: the pair is outside, and the default gives it; or the old table
-- allows something at the point
abbrev pub needs_at : Flexibility → Option ℕ → ℕ → (ℕ → ℕ) → Bool
needs_at f default k at =
    if default_chooses default then
    (slice_index_or f.outside k false && default_gives default (at f.net.0))
    else chooses f.old at

-- some line has to match at the place with this number
abbrev pub needs : Flexibility → Option ℕ → ℕ → Bool
needs f default k = needs_at f default k (value_at (space_for f default).nets (place f default k))

-- the values of the first places to be matched: a test passes at all of them just where it does at
-- each such place
pub record ArePlaces (f : Flexibility) (default : Option ℕ) (k : ℕ) (places : List (List ℕ))
    : Type 0 where
  pub each : (test : List ℕ → Bool) → list_all test places ≡ true → (j : ℕ) → j < k
      → needs f default j ≡ true
      → test (place f default j) ≡ true
  pub all : (test : List ℕ → Bool)
      → ((j : ℕ) → j < k → needs f default j ≡ true → test (place f default j) ≡ true)
      → list_all test places ≡ true

-- some line matches where the nets have these values
abbrev pub is_matched : List NetId → List Line → List ℕ → Bool
is_matched nets lines vs = list_any (λ (l : Line). matches (value_at nets vs) l.cube) lines

-- some line matches at each of the places
abbrev pub are_matched : List NetId → List (List ℕ) → List Line → Bool
are_matched nets places lines = list_all (is_matched nets lines) places

-- how many of the lines match there
abbrev pub times_matched : List NetId → List Line → List ℕ → ℕ
times_matched nets lines vs = count_by (λ (l : Line). matches (value_at nets vs) l.cube) lines

-- and at each of the places
abbrev pub all_times : List NetId → List Line → List (List ℕ) → List ℕ
all_times nets lines places = map (times_matched nets lines) places

-- one less where the line matches
abbrev pub one_less : List NetId → Line → List ℕ → ℕ → ℕ
one_less nets l vs count = if matches (value_at nets vs) l.cube then count - 1 else count

-- so at each of the places
abbrev pub less_by : List NetId → Line → List (List ℕ) → List ℕ → List ℕ
less_by nets l [] counts = []
less_by nets l (vs ∷ places) [] = []
less_by nets l (vs ∷ places) (count ∷ counts) = one_less nets l vs count
    ∷ less_by nets l places counts

-- the first lines are gone through: how many of those in front and of the others match, and what is
-- left in the end
pub record IsUnderWay (nets : List NetId) (places : List (List ℕ)) (lines front : List Line)
    (counts : List ℕ) (i : ℕ) : Type 0 where
  pub counted : counts ≡ all_times nets (front ++ drop i lines) places
  pub later : (left : List Line)
      → AreLeft (λ some. are_matched nets places some ≡ true) front (drop i lines) left
      → AreLeft (λ some. are_matched nets places some ≡ true) [] lines left
