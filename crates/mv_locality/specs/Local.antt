-- What stays around a net where a network changes.
use Rattle.std.specs.Prelude.{◌≡◌, ◌⊎◌, ℕ, true, false, Option, List}
use Rattle.mv_agenda.specs.Near.{IsNear}
use Rattle.mv_net.specs.declared.parts.FlatNet.{FlatNet}
use Rattle.mv_net.specs.Index.{is_held}
use Rattle.mv_net.specs.Nets.{slot, values_in, reads_in}

-- each net that is held has the values that it had
pub record KeepsValues (old new : List (Option FlatNet)) : Type 0 where
  pub values : (n : ℕ) → is_held new n ≡ true → values_in (slot new n) ≡ values_in (slot old n)

-- the net at m is as it was, and so is each other net but those that read it neither before nor now
pub record IsStill (old new : List (Option FlatNet)) (m : ℕ) : Type 0 where
  pub same : slot new m ≡ slot old m
  pub readers : (k : ℕ)
      → (slot new k ≡ slot old k) ⊎ ((reads_in old k m ≡ false) × (reads_in new k m ≡ false))

-- nothing changes but near the net n
pub record StaysAround (old new : List (Option FlatNet)) (n : ℕ) : Type 0 where
  pub values : KeepsValues old new
  pub still : (m : ℕ) → (IsNear old n m → ⊥) → IsStill old new m
