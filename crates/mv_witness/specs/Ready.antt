-- What a search for common points has ready.
use Rattle.std.specs.Prelude.{◌≡◌, ◌≤◌, ◌<◌, ◌^◌, ℕ, true, List, length, All}
use Rattle.mv_base.specs.declared.number.Value.{Value}
use Rattle.mv_diagram.specs.Diagrams.{IsPoint}
use Rattle.mv_diagram.specs.Sound.{AreCounts}
use Rattle.mv_factors.specs.declared.inner.Inner.{Inner}
use Rattle.mv_factors.specs.Rooms.{Room}
use Rattle.mv_factors.specs.Leaving.{is_inner}

-- the numbers of values of the variables, and for how many sets there is room
pub record Ready : Type 0 where
  pub counts : List ℕ
  pub places : ℕ

-- there is room for all variables, all are to be eliminated, and a point is at hand
pub record IsReady (counts : List ℕ) (room : Room) (all : List Inner) (zeros : List Value)
    : Type 0 where
  pub values : AreCounts counts
  pub few : length counts < 2 ^ 32
  pub vars : length counts ≤ room.vars
  pub within : All (λ (i : Inner). i.var < length counts) all
  pub every : (v : ℕ) → v < length counts → is_inner all v ≡ true
  pub point : IsPoint counts zeros
