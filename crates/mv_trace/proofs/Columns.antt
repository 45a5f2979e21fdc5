-- The nets of a run file's columns are held, and have few values.
use Rattle.std.proofs.Common.{◌≡◌, ℕ, suc, zero, ◌<◌, ◌≤◌, Option, Some, None, List, [], ◌∷◌, ◌++◌, length, get_or, is_some, IsTrue, true, refl, ap, arith}
use Rattle.std.specs.List.{All}
use Rattle.std.proofs.lemmas.List.Elements.{All-nil, All-cons, All-append, All-from_get_or}
use Rattle.mv_base.specs.declared.limits.TheConstants.{MAX_VALUES}
use Rattle.mv_base.specs.declared.number.NetId.{NetId}
use Rattle.mv_graph.specs.Nets.{has_id}
use Rattle.mv_graph.proofs.Nets.{has_id-at}
use Rattle.mv_net.specs.declared.parts.FlatNet.{FlatNet}
use Rattle.mv_net.specs.declared.parts.FlatLatch.{FlatLatch}
use Rattle.mv_net.specs.declared.parts.NetParts.{NetParts}
use Rattle.mv_net.specs.Nets.{slot}
use Rattle.mv_net.specs.Formed.{AllLatches, WellFormed, latch_outputs}
use Rattle.mv_net.specs.Index.{is_held, value_names_in}
use Rattle.mv_trace.specs.Runs.{columns_of}

-- these nets are held
abbrev pub AreHeld : NetParts → List NetId → Type 0
AreHeld net list = All (λ (n : NetId). IsTrue (is_held net.nets n.0)) list

held_list : (net : NetParts) (list : List NetId) → ((n : ℕ) → has_id list n ≡ true → IsTrue (is_held net.nets n)) → AreHeld net list
held_list net list each =
    All-from_get_or (λ (n : NetId). IsTrue (is_held net.nets n.0)) list (record { 0 = 0 })
    (λ i low. each (get_or list i (record { 0 = 0 })).0 (has_id-at list i (record { 0 = 0 }) low))

held_latches : (net : NetParts) (ls : List FlatLatch) → AllLatches net.nets ls → AreHeld net (latch_outputs ls)
held_latches net [] all = All-nil (λ (n : NetId). IsTrue (is_held net.nets n.0))
held_latches net (l ∷ ls) all =
    All-cons (λ (n : NetId). IsTrue (is_held net.nets n.0)) l.output (latch_outputs ls) (ap is_some all.0.output.held) (held_latches net ls all.1)

pub columns_held : (net : NetParts) → WellFormed net → AreHeld net (columns_of net)
columns_held net formed =
    All-append (λ (n : NetId). IsTrue (is_held net.nets n.0)) net.inputs (latch_outputs net.latches ++ net.outputs)
    (held_list net net.inputs (λ n h. ap is_some (formed.inputs.only (record { 0 = n }) h).held))
    (All-append (λ (n : NetId). IsTrue (is_held net.nets n.0)) (latch_outputs net.latches) net.outputs
    (held_latches net net.latches formed.latches)
    (held_list net net.outputs (λ n h. ap is_some (formed.outputs (record { 0 = n }) h).held)))

-- a net has no more names of values than values
few_names : (size values : ℕ) → values ≤ MAX_VALUES → (0 < size → size ≡ values) → size ≤ MAX_VALUES
few_names zero values few each = omega arith
few_names (suc n) values few each =
    let same : suc n ≡ values = each (omega arith) in
    omega arith

pub names_few : (net : NetParts) (n : ℕ) → WellFormed net → length (value_names_in (slot net.nets n)) ≤ MAX_VALUES
names_few net n formed = by_slot (slot net.nets n) refl
  where
    by_slot : (f : Option FlatNet) → slot net.nets n ≡ f → length (value_names_in f) ≤ MAX_VALUES
    by_slot None e = omega arith
    by_slot (Some f) e = few_names (length f.value_names) f.values (formed.nets n f e).few (formed.nets n f e).named.each
