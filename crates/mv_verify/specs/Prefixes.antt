-- The values of ports as they are gone through: each is the first values of many. For private
-- functions.
use Rattle.std.specs.Prelude.{◌≡◌, ℕ, ◌+◌, ◌<◌, ◌≤◌, Bool, IsTrue, min, List, length, slice_index}
use Rattle.mv_net.specs.declared.parts.NetParts.{NetParts}
use Rattle.mv_verify.specs.declared.prefixes.Look.{Look}
use Rattle.mv_verify.specs.declared.prefixes.Look.TheVariants.{Deeper, Passed, Found}
use Rattle.mv_verify.specs.Sides.{Shows}

-- the first values are these
pub record IsSame (end : ℕ) (values now : ℕ → ℕ) : Type 0 where
  pub each : (k : ℕ) → k < end → values k ≡ now k

-- the first values come before these: at the first place where they differ they are less
pub record IsBefore (end : ℕ) (values now : ℕ → ℕ) : Type 0 where
  pub place : ℕ
  pub within : place < end
  pub same : IsSame place values now
  pub less : values place < now place

-- the left network shows these first values, and where free the right one shows those of them that
-- are of the first `points`
pub record Opens (free : Bool) (left right : NetParts) (points end : ℕ) (values : ℕ → ℕ)
    : Type 0 where
  pub shown : Shows left end values
  pub some : IsTrue free → Shows right (min points end) values

-- they do, and the right one doesn't show all
pub record Differs (free : Bool) (left right : NetParts) (points end : ℕ) (values : ℕ → ℕ)
    : Type 0 where
  pub opens : Opens free left right points end values
  pub none : Shows right end values → ⊥

-- they don't, or the right one shows all
abbrev pub IsFine : Bool → NetParts → NetParts → ℕ → ℕ → (ℕ → ℕ) → Type 0
IsFine free left right points end values =
    Opens free left right points end values → Shows right end values

-- what is known of the first values of a list: none that begin so are a difference, or they are all
-- of them and are one
abbrev pub IsLook : Bool → NetParts → NetParts → ℕ → List ℕ → ℕ → Look → Type 0
IsLook free left right points values end Deeper = end < length values
IsLook free left right points values end Passed = (all : ℕ → ℕ)
    → IsSame end all (slice_index values) → IsFine free left right points (length values) all
IsLook free left right points values end Found =
    Differs free left right points (length values) (slice_index values)

-- behind these first values the next are those up to a place whose value is one more: those behind
-- it were the last. (Each place has as many values as `counts` says.)
pub record IsNext (counts : ℕ → ℕ) (old new : ℕ → ℕ) (end next : ℕ) : Type 0 where
  pub place : ℕ
  pub behind : next ≡ place + 1
  pub back : place < end
  pub same : IsSame place new old
  pub more : new place ≡ old place + 1
  pub last : (k : ℕ) → place < k → k < end → counts k ≤ old k + 1

-- these first values are the last
pub record AreLast (counts : ℕ → ℕ) (values : ℕ → ℕ) (end : ℕ) : Type 0 where
  pub last : (k : ℕ) → k < end → counts k ≤ values k + 1
