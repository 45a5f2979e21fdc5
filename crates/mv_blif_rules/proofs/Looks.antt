-- Networks that look alike from outside: the nets at their ports are named and spelled alike, and so have as many values.
use Rattle.std.proofs.Common.{◌≡◌, ◌∙◌, ℕ, true, nat_eq, Option, Some, None, List, [], ◌∷◌, length, map, refl, sym, ap, subst, ⊎_elim, eq-eqb, eqb-true, arith}
use Rattle.std.specs.Prelude.{decimal}
use Rattle.std.specs.List.{range_with_len}
use Rattle.std.proofs.lemmas.Bool.{or_cases, or_left, or_right, false≢true}
use Rattle.std.proofs.lemmas.List.{length-map}
use Rattle.std.proofs.lemmas.List.FromFn.{length-range_with_len}
use Rattle.std.proofs.lemmas.Simd.{map-map}
use Rattle.mv_base.specs.Meaning.{Port, LatchPort, Interface}
use Rattle.mv_base.specs.declared.number.NetId.{NetId}
use Rattle.mv_graph.specs.Nets.{has_id}
use Rattle.mv_net.specs.declared.parts.FlatLatch.{FlatLatch}
use Rattle.mv_net.specs.declared.parts.FlatNet.{FlatNet}
use Rattle.mv_net.specs.declared.parts.NetParts.{NetParts}
use Rattle.mv_net.specs.Formed.{IsNamed, WellFormed, latch_outputs}
use Rattle.mv_net.specs.Nets.{slot, values_in, name_in, spelled_values, spelled_in, port_of, latch_port_of, interface_of}

-- ---- the ports of the networks

pub inputs_alike : (b a : NetParts) → interface_of b ≡ interface_of a → map (port_of b.nets) b.inputs ≡ map (port_of a.nets) a.inputs
unfolding interface_of
inputs_alike b a same = ap (λ (t : Interface). t.inputs) same

pub outputs_alike : (b a : NetParts) → interface_of b ≡ interface_of a → map (port_of b.nets) b.outputs ≡ map (port_of a.nets) a.outputs
unfolding interface_of
outputs_alike b a same = ap (λ (t : Interface). t.outputs) same

-- the output of a latch, as a port
abbrev output_port : LatchPort → Port
output_port t = record { name = t.name; values = t.values }

output_ports : (nets : List (Option FlatNet)) (ls : List FlatLatch) → map output_port (map (latch_port_of nets) ls) ≡ map (port_of nets) (latch_outputs ls)
output_ports nets ls = map-map output_port (latch_port_of nets) ls ∙ sym (map-map (port_of nets) (λ (l : FlatLatch). l.output) ls)

pub states_alike : (b a : NetParts) → interface_of b ≡ interface_of a → map (port_of b.nets) (latch_outputs b.latches) ≡ map (port_of a.nets) (latch_outputs a.latches)
unfolding interface_of
states_alike b a same = sym (output_ports b.nets b.latches) ∙ (ap (λ (t : Interface). map output_port t.latches) same ∙ output_ports a.nets a.latches)

-- ---- nets with the same ports

-- they have the same names
pub names_alike : (nets others : List (Option FlatNet)) (ns ms : List NetId) → map (port_of nets) ns ≡ map (port_of others) ms → map (λ (n : NetId). name_in (slot nets n.0)) ns ≡ map (λ (m : NetId). name_in (slot others m.0)) ms
names_alike nets others ns ms same =
    let name : Port → List ℕ = λ p. p.name in
    sym (map-map name (port_of nets) ns) ∙ (ap (map name) same ∙ map-map name (port_of others) ms)

-- they are spelled so, if the others are
pub all_spelled : (values : List (List ℕ)) (nets others : List (Option FlatNet)) (ns ms : List NetId) → map (port_of nets) ns ≡ map (port_of others) ms
    → ((m : NetId) → has_id ms m.0 ≡ true → spelled_in (slot others m.0) ≡ values) → (n : NetId) → has_id ns n.0 ≡ true → spelled_in (slot nets n.0) ≡ values
all_spelled values nets others [] ms same are n h = absurd (false≢true h)
all_spelled values nets others (k ∷ ns) [] same are n h = cc
all_spelled values nets others (k ∷ ns) (m ∷ ms) same are n h =
    let port : port_of nets k ≡ port_of others m = cc in
    let rest : map (port_of nets) ns ≡ map (port_of others) ms = cc in
    ⊎_elim
    (λ (is : nat_eq k.0 n.0 ≡ true).
    subst (λ j. spelled_in (slot nets j) ≡ values) (eqb-true k.0 n.0 is)
    (ap (λ (p : Port). p.values) port ∙ are m (or_left (nat_eq m.0 m.0) (has_id ms m.0) (eq-eqb m.0 m.0 refl))))
    (λ (behind : has_id ns n.0 ≡ true). all_spelled values nets others ns ms rest (λ j s. are j (or_right (nat_eq m.0 j.0) (has_id ms j.0) s)) n behind)
    (or_cases (nat_eq k.0 n.0) (has_id ns n.0) h)

-- ---- how many values they have

-- a file spells as many values as the net has
spelled_count : (net : NetParts) (n : ℕ) → WellFormed net → length (spelled_in (slot net.nets n)) ≡ values_in (slot net.nets n)
spelled_count net n formed = by_slot (slot net.nets n) refl
  where
    by_names : (values : ℕ) (names : List (List ℕ)) → IsNamed values names → length (spelled_values values names) ≡ values
    by_names values [] is = length-map (range_with_len 0 values) decimal ∙ length-range_with_len 0 values
    by_names values (w ∷ ws) is = is.each (omega arith)

    by_slot : (f : Option FlatNet) → slot net.nets n ≡ f → length (spelled_in f) ≡ values_in f
    by_slot None e = refl
    by_slot (Some f) e = by_names f.values f.value_names (formed.nets n f e).named

pub count_alike : (b a : NetParts) (n m : ℕ) → WellFormed b → WellFormed a → spelled_in (slot b.nets n) ≡ spelled_in (slot a.nets m) → values_in (slot b.nets n) ≡ values_in (slot a.nets m)
count_alike b a n m formed_b formed_a same = sym (spelled_count b n formed_b) ∙ (ap (λ ws. length ws) same ∙ spelled_count a m formed_a)
