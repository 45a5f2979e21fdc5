-- Values of nets by name and by number.
use Rattle.std.specs.Prelude.{◌≡◌, ℕ, true, false, Some, List, map}
use Rattle.mv_chosen.specs.Binary.{binary_choice}
use Rattle.mv_cover.specs.declared.cover.Cover.{Cover}
use Rattle.mv_cover.specs.Covers.{allowed}
use Rattle.mv_base.specs.declared.number.NetId.{NetId}
use Rattle.mv_design.specs.declared.design.FileModel.{FileModel}
use Rattle.mv_design.specs.Nets.{latch_inputs, latch_outputs}
use Rattle.mv_net.specs.declared.parts.FlatLatch.{FlatLatch}
use Rattle.mv_net.specs.declared.parts.FlatNet.{FlatNet}
use Rattle.mv_net.specs.declared.parts.NetParts.{NetParts}
use Rattle.mv_net.specs.Formed.{IsReadable}
use Rattle.mv_net.specs.Index.{is_reset}
use Rattle.mv_net.specs.Nets.{slot, name_in}
use Rattle.mv_blif_back.specs.Rows.{is_low}

-- a valuation of names and an assignment of numbers give each net that can be read one value, which
-- is 0 or 1
pub record AreAlike (net : NetParts) (value : List ℕ → ℕ) (at : ℕ → ℕ) : Type 0 where
  pub same : (k : ℕ) → IsReadable net.nets k → value (name_in (slot net.nets k)) ≡ at k
  pub low : (k : ℕ) → IsReadable net.nets k → is_low at k ≡ true

-- the choice of each table but those of reset nets allows the value of its net
abbrev pub ChoicesHold : NetParts → (List ℕ → ℕ) → (ℕ → ℕ) → Type 0
ChoicesHold net value at = (n : ℕ) (f : FlatNet) (c : Cover) → slot net.nets n ≡ Some f
    → f.table ≡ Some c → is_reset (Some f.kind) ≡ false
    → allowed (binary_choice c) at (value f.name) ≡ true

-- the ports and latches of the model have the values of the network's
pub record HasValues (net : NetParts) (m : FileModel) (value : List ℕ → ℕ) (at : ℕ → ℕ) : Type 0 where
  pub inputs : map value m.inputs ≡ map (λ (n : NetId). at n.0) net.inputs
  pub outputs : map value m.outputs ≡ map (λ (n : NetId). at n.0) net.outputs
  pub states : map value (latch_outputs m) ≡ map (λ (l : FlatLatch). at l.output.0) net.latches
  pub next : map value (latch_inputs m) ≡ map (λ (l : FlatLatch). at l.input.0) net.latches
