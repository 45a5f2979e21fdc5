-- The ports of a network are held, and an assignment that agrees has values of theirs.
use Rattle.std.proofs.Common.{◌≡◌, ◌∙◌, ℕ, zero, suc, get_or, ◌+◌, ◌<◌, ◌≤◌, true, nat_eq, nat_lt, Option, Some, None, is_some, IsTrue, List, [], ◌∷◌, ◌++◌, length, sym, ap, subst, ⊎_elim, eqb-true, length-append, arith}
use Rattle.std.proofs.lemmas.Bool.{and_parts, ltb-true, or_cases, false≢true}
use Rattle.std.proofs.lemmas.List.{length-map}
use Rattle.mv_base.specs.declared.number.NetId.{NetId}
use Rattle.mv_graph.specs.Nets.{has_id}
use Rattle.mv_graph.specs.Sorting.{net_at}
use Rattle.mv_graph.proofs.Nets.{has_id-append, has_id-at}
use Rattle.mv_net.specs.declared.parts.FlatNet.{FlatNet}
use Rattle.mv_net.specs.declared.parts.FlatLatch.{FlatLatch}
use Rattle.mv_net.specs.declared.parts.NetParts.{NetParts}
use Rattle.mv_net.specs.Nets.{slot, values_in}
use Rattle.mv_net.specs.Index.{is_held}
use Rattle.mv_net.specs.Formed.{AllLatches, WellFormed, latch_outputs, latch_resets}
use Rattle.mv_net.specs.Searching.{AreHeld}
use Rattle.mv_net.specs.Allowed.{Agrees, net_allows, net_table_allows}
use Rattle.mv_verify.specs.Sides.{latch_inputs, point_ports, choice_ports, ports_of, count_at, Shows}

-- ---- held

both_held : (net : NetParts) (ms ns : List NetId) → AreHeld net.nets ms → AreHeld net.nets ns → AreHeld net.nets (ms ++ ns)
both_held net ms ns h k = record {
  each = λ n on.
      ⊎_elim
      (λ (there : has_id ms n ≡ true). h.each n there)
      (λ (there : has_id ns n ≡ true). k.each n there)
      (or_cases (has_id ms n) (has_id ns n) (sym (has_id-append ms ns n) ∙ on));
}

pub inputs_held : (net : NetParts) → WellFormed net → AreHeld net.nets net.inputs
inputs_held net formed = record {
  each = λ n h. let is = formed.inputs.only (record { 0 = n }) h in ap is_some is.held;
}

pub outputs_held : (net : NetParts) → WellFormed net → AreHeld net.nets net.outputs
outputs_held net formed = record {
  each = λ n h. let is = formed.outputs (record { 0 = n }) h in ap is_some is.held;
}

states_held : (net : NetParts) → WellFormed net → AreHeld net.nets (latch_outputs net.latches)
states_held net formed = record {
  each = λ n h. let is = formed.states.only (record { 0 = n }) h in ap is_some is.held;
}

resets_held : (net : NetParts) → WellFormed net → AreHeld net.nets (latch_resets net.latches)
resets_held net formed = record {
  each = λ n h. let is = formed.resets.only (record { 0 = n }) h in ap is_some is.held;
}

next_held : (nets : List (Option FlatNet)) (ls : List FlatLatch) (n : ℕ) → AllLatches nets ls → has_id (latch_inputs ls) n ≡ true → is_held nets n ≡ true
next_held nets [] n all h = absurd (false≢true h)
next_held nets (l ∷ ls) n all h =
    ⊎_elim
    (λ (here : nat_eq l.input.0 n ≡ true).
    let P : ℕ → Type 0 = λ k. is_held nets k ≡ true in
    subst P (eqb-true l.input.0 n here) (ap is_some all.0.input.held))
    (λ (there : has_id (latch_inputs ls) n ≡ true). next_held nets ls n all.1 there)
    (or_cases (nat_eq l.input.0 n) (has_id (latch_inputs ls) n) h)

pub ports_held : (net : NetParts) → WellFormed net → AreHeld net.nets (ports_of net)
unfolding ports_of point_ports choice_ports
ports_held net formed =
    let points = both_held net net.inputs (latch_outputs net.latches) (inputs_held net formed) (states_held net formed) in
    let next : AreHeld net.nets (latch_inputs net.latches) = record { each = λ n h. next_held net.nets net.latches n formed.latches h } in
    let rest = both_held net (latch_inputs net.latches) (latch_resets net.latches) next (resets_held net formed) in
    both_held net (net.inputs ++ latch_outputs net.latches) (net.outputs ++ (latch_inputs net.latches ++ latch_resets net.latches)) points (both_held net net.outputs (latch_inputs net.latches ++ latch_resets net.latches) (outputs_held net formed) rest)

-- the port at a place is held
pub port_held : (net : NetParts) (k : ℕ) → WellFormed net → k < length (ports_of net) → is_held net.nets (net_at (ports_of net) k) ≡ true
port_held net k formed less =
    let none : NetId = record { 0 = 0 } in
    (ports_held net formed).each (net_at (ports_of net) k) (has_id-at (ports_of net) k none less)

-- the output of a latch is held
pub latch_held : (nets : List (Option FlatNet)) (ls : List FlatLatch) (l : FlatLatch) → AllLatches nets (l ∷ ls) → is_held nets l.output.0 ≡ true
latch_held nets ls l all = ap is_some all.0.output.held

-- that of the one at a place too
pub latch_at_held : (nets : List (Option FlatNet)) (ls : List FlatLatch) (k : ℕ) (none : FlatLatch) → AllLatches nets ls → k < length ls → is_held nets (get_or ls k none).output.0 ≡ true
latch_at_held nets [] k none all less = absurd (omega arith)
latch_at_held nets (l ∷ ls) zero none all less = latch_held nets ls l all
latch_at_held nets (l ∷ ls) (suc k) none all less = latch_at_held nets ls k none all.1 (omega arith)

-- ---- how many

pub points_long : (net : NetParts) → length (point_ports net) ≡ length net.inputs + length net.latches
unfolding point_ports
points_long net = length-append net.inputs (latch_outputs net.latches) ∙ ap (λ k. length net.inputs + k) (length-map net.latches (λ (l : FlatLatch). l.output))

pub choices_long : (net : NetParts) → length (choice_ports net) ≡ length net.outputs + (length net.latches + length (latch_resets net.latches))
unfolding choice_ports
choices_long net =
    length-append net.outputs (latch_inputs net.latches ++ latch_resets net.latches)
    ∙ ap (λ k. length net.outputs + k) (length-append (latch_inputs net.latches) (latch_resets net.latches) ∙ ap (λ k. k + length (latch_resets net.latches)) (length-map net.latches (λ (l : FlatLatch). l.input)))

pub ports_long : (net : NetParts) → length (ports_of net) ≡ length (point_ports net) + length (choice_ports net)
unfolding ports_of
ports_long net = length-append (point_ports net) (choice_ports net)

-- ---- values

-- the value of a held net is one of its values
value_below : (f : Option FlatNet) (at : ℕ → ℕ) (v : ℕ) → is_some f ≡ true → IsTrue (net_allows f at v) → v < values_in f
value_below None at v held fits = absurd (false≢true held)
value_below (Some f) at v held fits = ltb-true v f.values (and_parts (nat_lt v f.values) (net_table_allows f.table at v) fits).0

pub agreed_below : (net : NetParts) (at : ℕ → ℕ) (n : ℕ) → Agrees net.nets at → is_held net.nets n ≡ true → at n < values_in (slot net.nets n)
agreed_below net at n agrees held = value_below (slot net.nets n) at (at n) held (agrees.each n)

-- values that are shown are values of the ports
pub shown_below : (net : NetParts) (end : ℕ) (values : ℕ → ℕ) (k : ℕ) → WellFormed net → end ≤ length (ports_of net) → Shows net end values → k < end → values k < count_at net k
unfolding count_at
shown_below net end values k formed inside s less =
    let low = agreed_below net s.at (net_at (ports_of net) k) s.agrees (port_held net k formed (omega arith)) in
    let same : s.at (net_at (ports_of net) k) ≡ values k = s.same.each k less in
    omega arith
