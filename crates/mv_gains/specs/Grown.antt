-- What private functions alone cite: sets into which more is put.
use Rattle.std.specs.Prelude.{◌⊎◌, List, Contains}

-- for one of the list it is so
pub record IsOneOf {X K : Type 0} (Is : X → K → Type 0) (xs : List X) (k : K) : Type 0 where
  pub from : X
  pub there : Contains xs from
  pub is : Is from k

-- the set keeps what it has, and gets each of which this holds, and nothing else
pub record Grew {K : Type 0} (Is : K → Type 0) (old new : List K) : Type 0 where
  pub keeps : (k : K) → Contains old k → Contains new k
  pub each : (k : K) → Contains new k → Contains old k ⊎ Is k
  pub all : (k : K) → Is k → Contains new k
