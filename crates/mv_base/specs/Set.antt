-- Sets of values, each as the number whose bit v is set where v is a member.
use Rattle.std.specs.Prelude.{ℕ, Bool, ◌==◌, ◌^◌, ◌-◌, ◌<◌, IsTrue, bit_and, bit_or, bit_xor}
use Rattle.std.specs.Int.{bit_at}
use Rattle.mv_base.specs.declared.limits.TheConstants.{MAX_VALUES}

-- v is a member of s
unfoldable pub has : ℕ → ℕ → Bool
has s v = bit_at s v == 1

-- the set without members
unfoldable pub empty : ℕ
empty = 0

-- the set of v alone
unfoldable pub one : ℕ → ℕ
one v = 2 ^ v

-- the set of the k values below k
unfoldable pub full : ℕ → ℕ
full k = 2 ^ k - 1

-- the members of both
unfoldable pub meet : ℕ → ℕ → ℕ
meet a b = bit_and a b

-- the members of either
unfoldable pub join : ℕ → ℕ → ℕ
join a b = bit_or a b

-- the members of a that are none of b
unfoldable pub minus : ℕ → ℕ → ℕ
minus a b = bit_xor a (bit_and a b)

-- every member of a is one of b
abbrev pub Within : ℕ → ℕ → Type 0
Within a b = (v : ℕ) → IsTrue (has a v) → IsTrue (has b v)

-- s is a set of values that a net may have
pub record IsSet (s : ℕ) : Type 0 where
  pub below : (v : ℕ) → IsTrue (has s v) → v < MAX_VALUES
