-- The latches of a network beside those of its model, which have the same nets by name.
use Rattle.std.proofs.Common.{◌≡◌, ℕ, List, [], ◌∷◌, map, Option, refl, ap}
use Rattle.mv_base.specs.declared.number.NetId.{NetId}
use Rattle.mv_design.specs.declared.design.FileLatch.{FileLatch}
use Rattle.mv_net.specs.declared.parts.Kind.TheVariants.{Latch}
use Rattle.mv_net.specs.declared.parts.FlatNet.{FlatNet}
use Rattle.mv_net.specs.declared.parts.FlatLatch.{FlatLatch}
use Rattle.mv_net.specs.Nets.{slot, name_in}
use Rattle.mv_net.specs.Formed.{IsReadable, IsLatch, AllLatches, latch_outputs}
use Rattle.mv_text.specs.Text.{names_of, numbers}
use Rattle.mv_text_back.proofs.TextModel.{IsLatchOf, AreLatchesOf}
use Rattle.mv_text_back.proofs.Resets.{readable-kind}
use Rattle.mv_text_back.proofs.Numbers.{AllReadable}

-- the inputs of the latches, in order
abbrev pub latch_inputs : List FlatLatch → List NetId
latch_inputs ls = map (λ (l : FlatLatch). l.input) ls

-- one net of each latch: its input, or its output
module _ (nets : List (Option FlatNet)) (net_of : FlatLatch → NetId) where
  latches_named : (name_of : FileLatch → List ℕ) → ((l : FlatLatch) (h : FileLatch) → IsLatchOf nets l h → name_of h ≡ name_in (slot nets (net_of l).0))
      → (ls : List FlatLatch) (hs : List FileLatch) → AreLatchesOf nets ls hs → map name_of hs ≡ names_of nets (map net_of ls)
  latches_named name_of is [] [] all = refl
  latches_named name_of is [] (h ∷ hs) all = absurd all
  latches_named name_of is (l ∷ ls) [] all = absurd all
  latches_named name_of is (l ∷ ls) (h ∷ hs) all = rw (is l h all.0, latches_named name_of is ls hs all.1) refl

  latches_readable : ((l : FlatLatch) → IsLatch nets l → IsReadable nets (net_of l).0) → (ls : List FlatLatch) → AllLatches nets ls
      → AllReadable nets (numbers (map net_of ls))
  latches_readable can [] all = tt
  latches_readable can (l ∷ ls) all = (can l all.0, latches_readable can ls all.1)

  -- values of these nets, latch by latch
  pub latches_at : (at : ℕ → ℕ) (ls : List FlatLatch) → map (λ (l : FlatLatch). at (net_of l).0) ls ≡ map (λ (n : NetId). at n.0) (map net_of ls)
  latches_at at [] = refl
  latches_at at (l ∷ ls) = ap (λ vs. at (net_of l).0 ∷ vs) (latches_at at ls)

pub inputs_named : (nets : List (Option FlatNet)) (ls : List FlatLatch) (hs : List FileLatch) → AreLatchesOf nets ls hs
    → map (λ (h : FileLatch). h.input) hs ≡ names_of nets (latch_inputs ls)
inputs_named nets ls hs all = latches_named nets (λ l. l.input) (λ h. h.input) (λ l h is. is.input) ls hs all

pub outputs_named : (nets : List (Option FlatNet)) (ls : List FlatLatch) (hs : List FileLatch) → AreLatchesOf nets ls hs
    → map (λ (h : FileLatch). h.output) hs ≡ names_of nets (latch_outputs ls)
outputs_named nets ls hs all = latches_named nets (λ l. l.output) (λ h. h.output) (λ l h is. is.output) ls hs all

pub inputs_readable : (nets : List (Option FlatNet)) (ls : List FlatLatch) → AllLatches nets ls → AllReadable nets (numbers (latch_inputs ls))
inputs_readable nets ls all = latches_readable nets (λ l. l.input) (λ l is. is.input) ls all

pub outputs_readable : (nets : List (Option FlatNet)) (ls : List FlatLatch) → AllLatches nets ls → AllReadable nets (numbers (latch_outputs ls))
outputs_readable nets ls all = latches_readable nets (λ l. l.output) (λ l is. readable-kind nets l.output.0 Latch refl is.output) ls all
