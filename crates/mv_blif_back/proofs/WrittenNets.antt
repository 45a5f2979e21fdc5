-- The network with its written tables is seen from outside as it was.
use Rattle.std.proofs.Common.{◌≡◌, ◌∙◌, ℕ, ◌+◌, zero, suc, List, [], ◌∷◌, map, Option, Some, None, refl, ap, arith}
use Rattle.mv_base.specs.declared.number.NetId.{NetId}
use Rattle.mv_chosen.specs.Written.{written_net, written_from, written_nets}
use Rattle.mv_net.specs.declared.parts.FlatLatch.{FlatLatch}
use Rattle.mv_net.specs.declared.parts.FlatNet.{FlatNet}
use Rattle.mv_net.specs.declared.parts.NetParts.{NetParts}
use Rattle.mv_net.specs.Changes.{with_nets}
use Rattle.mv_net.specs.Nets.{slot, name_in, values_in, spelled_in, port_of, latch_port_of, has_reset, interface_of}

-- the net at a number
from_slot : (ls : List FlatLatch) (vs : List ℕ) (k : ℕ) (fs : List (Option FlatNet)) (n : ℕ) → slot (written_from ls vs k fs) n ≡ written_net ls vs (k + n) (slot fs n)
from_slot ls vs k [] n = refl
from_slot ls vs k (f ∷ fs) zero = let e : k ≡ k + zero = omega arith in ap (λ i. written_net ls vs i f) e
from_slot ls vs k (f ∷ fs) (suc n) = let e : (k + 1) + n ≡ k + suc n = omega arith in from_slot ls vs (k + 1) fs n ∙ ap (λ i. written_net ls vs i (slot fs n)) e

pub written-slot : (net : NetParts) (vs : List ℕ) (n : ℕ) → slot (written_nets net vs) n ≡ written_net net.latches vs n (slot net.nets n)
unfolding written_nets
written-slot net vs n = let e : 0 + n ≡ n = omega arith in from_slot net.latches vs 0 net.nets n ∙ ap (λ i. written_net net.latches vs i (slot net.nets n)) e

-- it has as many values as it had
pub written-values : (net : NetParts) (vs : List ℕ) (n : ℕ) → values_in (slot (written_nets net vs) n) ≡ values_in (slot net.nets n)
written-values net vs n = ap values_in (written-slot net vs n) ∙ count_kept net.latches vs n (slot net.nets n)
  where
    count_kept : (ls : List FlatLatch) (vs : List ℕ) (n : ℕ) (o : Option FlatNet) → values_in (written_net ls vs n o) ≡ values_in o
    count_kept ls vs n None = refl
    count_kept ls vs n (Some f) = refl

name_kept : (ls : List FlatLatch) (vs : List ℕ) (n : ℕ) (o : Option FlatNet) → name_in (written_net ls vs n o) ≡ name_in o
name_kept ls vs n None = refl
name_kept ls vs n (Some f) = refl

values_kept : (ls : List FlatLatch) (vs : List ℕ) (n : ℕ) (o : Option FlatNet) → spelled_in (written_net ls vs n o) ≡ spelled_in o
values_kept ls vs n None = refl
values_kept ls vs n (Some f) = refl

module _ (net : NetParts) (vs : List ℕ) where
  abbrev new : List (Option FlatNet)
  new = written_nets net vs

  name_same : (n : ℕ) → name_in (slot new n) ≡ name_in (slot net.nets n)
  name_same n = ap name_in (written-slot net vs n) ∙ name_kept net.latches vs n (slot net.nets n)

  values_same : (n : ℕ) → spelled_in (slot new n) ≡ spelled_in (slot net.nets n)
  values_same n = ap spelled_in (written-slot net vs n) ∙ values_kept net.latches vs n (slot net.nets n)

  ports_same : (ns : List NetId) → map (port_of new) ns ≡ map (port_of net.nets) ns
  ports_same [] = refl
  ports_same (n ∷ ns) =
      ap (λ w. record { name = w; values = spelled_in (slot new n.0) } ∷ map (port_of new) ns) (name_same n.0)
      ∙ (ap (λ v. record { name = name_in (slot net.nets n.0); values = v } ∷ map (port_of new) ns) (values_same n.0) ∙ ap (λ ps. port_of net.nets n ∷ ps) (ports_same ns))

  latches_same : (ls : List FlatLatch) → map (latch_port_of new) ls ≡ map (latch_port_of net.nets) ls
  latches_same [] = refl
  latches_same (l ∷ ls) =
      ap (λ w. record { name = w; values = spelled_in (slot new l.output.0); has_reset = has_reset l.reset } ∷ map (latch_port_of new) ls) (name_same l.output.0)
      ∙ (ap (λ v. record { name = name_in (slot net.nets l.output.0); values = v; has_reset = has_reset l.reset } ∷ map (latch_port_of new) ls) (values_same l.output.0)
      ∙ ap (λ ps. latch_port_of net.nets l ∷ ps) (latches_same ls))

  pub written-interface : interface_of (with_nets net new) ≡ interface_of net
  unfolding interface_of with_nets
  written-interface =
      ap (λ i. record { inputs = i; outputs = map (port_of new) net.outputs; latches = map (latch_port_of new) net.latches }) (ports_same net.inputs)
      ∙ (ap (λ o. record { inputs = map (port_of net.nets) net.inputs; outputs = o; latches = map (latch_port_of new) net.latches }) (ports_same net.outputs)
      ∙ ap (λ l. record { inputs = map (port_of net.nets) net.inputs; outputs = map (port_of net.nets) net.outputs; latches = l }) (latches_same net.latches))
