-- What a network allows: an assignment of one value to each number that agrees with every table.
use Rattle.std.specs.Prelude.{◌≡◌, ℕ, ◌<◌, Bool, true, ◌&&◌, nat_lt, IsTrue, Option, Some, None, List, [], ◌∷◌, map}
use Rattle.mv_base.specs.Meaning.{Meaning}
use Rattle.mv_base.specs.declared.number.NetId.{NetId}
use Rattle.mv_cover.specs.declared.cover.Cover.{Cover}
use Rattle.mv_cover.specs.Covers.{allowed}
use Rattle.mv_net.specs.declared.parts.FlatNet.{FlatNet}
use Rattle.mv_net.specs.declared.parts.FlatLatch.{FlatLatch}
use Rattle.mv_net.specs.declared.parts.NetParts.{NetParts}
use Rattle.mv_net.specs.Nets.{slot, values_in, interface_of}

-- a net's table allows the value; a net without a table takes any
abbrev pub net_table_allows : Option Cover → (ℕ → ℕ) → ℕ → Bool
net_table_allows None at value = true
net_table_allows (Some c) at value = allowed c at value

-- the value is one of the net's, and its table allows it; a number that isn't held takes any
abbrev pub net_allows : Option FlatNet → (ℕ → ℕ) → ℕ → Bool
net_allows None at value = true
net_allows (Some f) at value = nat_lt value f.values && net_table_allows f.table at value

-- the assignment agrees with every net
pub record Agrees (nets : List (Option FlatNet)) (at : ℕ → ℕ) : Type 0 where
  pub each : (n : ℕ) → IsTrue (net_allows (slot nets n) at (at n))

-- the reset value of a latch: that of its reset net, or any of its values where it has none
abbrev pub reset_gives : List (Option FlatNet) → (ℕ → ℕ) → NetId → Option NetId → ℕ → Type 0
reset_gives nets at output None value = value < values_in (slot nets output.0)
reset_gives nets at output (Some n) value = value ≡ at n.0

-- one reset value for each latch
abbrev pub resets_give : List (Option FlatNet) → (ℕ → ℕ) → List FlatLatch → List ℕ → Type 0
resets_give nets at [] [] = Unit {0}
resets_give nets at [] (_ ∷ _) = ⊥
resets_give nets at (_ ∷ _) [] = ⊥
resets_give nets at (l ∷ ls) (v ∷ vs) = reset_gives nets at l.output l.reset v
    × resets_give nets at ls vs

-- the network allows outputs o, latch inputs n and resets r together, under inputs i and latch
-- values s
pub record Allows (net : NetParts) (i s o n r : List ℕ) : Type 0 where
  pub at : ℕ → ℕ
  pub agrees : Agrees net.nets at
  pub inputs : map (λ (m : NetId). at m.0) net.inputs ≡ i
  pub states : map (λ (l : FlatLatch). at l.output.0) net.latches ≡ s
  pub outputs : map (λ (m : NetId). at m.0) net.outputs ≡ o
  pub next : map (λ (l : FlatLatch). at l.input.0) net.latches ≡ n
  pub resets : resets_give net.nets at net.latches r

-- what a network means
unfoldable pub of_net : NetParts → Meaning
of_net net = record { interface = interface_of net; allows = Allows net }
