-- The values of ports as a point and a choice. For private functions.
use Rattle.std.specs.Prelude.{◌≡◌, ℕ, Option, Some, None, List, [], ◌∷◌, ◌++◌, length, drop, slice_index}
use Rattle.mv_base.specs.declared.number.NetId.{NetId}
use Rattle.mv_net.specs.declared.parts.FlatLatch.{FlatLatch}
use Rattle.mv_net.specs.declared.parts.NetParts.{NetParts}
use Rattle.mv_verify.specs.declared.answer.Point.{Point}
use Rattle.mv_verify.specs.declared.answer.Choice.{Choice}

-- the value of a latch's reset net, and the values behind it. A latch without one has 0
abbrev pub first_reset : Option NetId → List ℕ → ℕ
first_reset None vs = 0
first_reset (Some n) vs = slice_index vs 0

abbrev pub other_resets : Option NetId → List ℕ → List ℕ
other_resets None vs = vs
other_resets (Some n) vs = drop 1 vs

-- the reset values of the latches, where their reset nets have these values in turn
abbrev pub spread : List FlatLatch → List ℕ → List ℕ
spread [] vs = []
spread (l ∷ ls) vs = first_reset l.reset vs ∷ spread ls (other_resets l.reset vs)

-- the first reset value was put behind others
pub record IsPushed (reset : Option NetId) (vs others old new : List ℕ) : Type 0 where
  pub resets : new ≡ old ++ first_reset reset vs ∷ []
  pub behind : other_resets reset vs ≡ others

-- the point has the values of the ports that make one
pub record IsPointOf (net : NetParts) (values : List ℕ) (p : Point) : Type 0 where
  pub whole : values ≡ p.inputs ++ p.latches
  pub inputs : length p.inputs ≡ length net.inputs
  pub latches : length p.latches ≡ length net.latches

-- the choice has the values of the ports that make one
pub record IsChoiceOf (net : NetParts) (values : List ℕ) (c : Choice) : Type 0 where
  pub resets : List ℕ
  pub whole : values ≡ c.outputs ++ (c.next ++ resets)
  pub outputs : length c.outputs ≡ length net.outputs
  pub next : length c.next ≡ length net.latches
  pub spread : c.resets ≡ spread net.latches resets
