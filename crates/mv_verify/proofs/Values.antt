-- What a network allows are values of its ports.
use Rattle.std.proofs.Common.{◌≡◌, ℕ, ◌<◌, true, nat_eq, Option, Some, None, is_some, List, [], ◌∷◌, length, map, refl, ap, subst, eq-eqb, arith}
use Rattle.std.specs.List.{AllZip}
use Rattle.std.proofs.lemmas.Bool.{or_left, or_right}
use Rattle.mv_base.specs.declared.number.NetId.{NetId}
use Rattle.mv_graph.specs.Nets.{has_id}
use Rattle.mv_net.specs.declared.parts.FlatLatch.{FlatLatch}
use Rattle.mv_net.specs.declared.parts.NetParts.{NetParts}
use Rattle.mv_net.specs.Nets.{slot, values_in, spelled_in, port_of, latch_port_of, interface_of}
use Rattle.mv_net.specs.Index.{is_held}
use Rattle.mv_net.specs.Formed.{AllLatches, IsResetNet, WellFormed}
use Rattle.mv_net.specs.Searching.{AreHeld}
use Rattle.mv_net.specs.Allowed.{Agrees, Allows, reset_gives, resets_give}
use Rattle.mv_verify.specs.Answers.{IsPortValue, IsLatchValue, AreValues}
use Rattle.mv_verify.proofs.Looks.{spelled_long}
use Rattle.mv_verify.proofs.Ports.{inputs_held, outputs_held, agreed_below}

-- a value of a held net is one of those that a file spells
spelled_below : (net : NetParts) (n v : ℕ) → WellFormed net → v < values_in (slot net.nets n) → v < length (spelled_in (slot net.nets n))
spelled_below net n v formed low = let long = spelled_long net n formed in omega arith

held_behind : (net : NetParts) (m : NetId) (ns : List NetId) → AreHeld net.nets (m ∷ ns) → AreHeld net.nets ns
held_behind net m ns h = record { each = λ n on. h.each n (or_right (nat_eq m.0 n) (has_id ns n) on) }

ports_values : (net : NetParts) (at : ℕ → ℕ) (ns : List NetId) → WellFormed net → Agrees net.nets at → AreHeld net.nets ns → AllZip IsPortValue (map (port_of net.nets) ns) (map (λ (m : NetId). at m.0) ns)
ports_values net at [] formed agrees held = tt
ports_values net at (m ∷ ns) formed agrees held =
    let here : is_held net.nets m.0 ≡ true = held.each m.0 (or_left (nat_eq m.0 m.0) (has_id ns m.0) (eq-eqb m.0 m.0 refl)) in
    (spelled_below net m.0 (at m.0) formed (agreed_below net at m.0 agrees here), ports_values net at ns formed agrees (held_behind net m ns held))

states_values : (net : NetParts) (at : ℕ → ℕ) (ls : List FlatLatch) → WellFormed net → Agrees net.nets at → AllLatches net.nets ls → AllZip IsLatchValue (map (latch_port_of net.nets) ls) (map (λ (l : FlatLatch). at l.output.0) ls)
states_values net at [] formed agrees all = tt
states_values net at (l ∷ ls) formed agrees all =
    (spelled_below net l.output.0 (at l.output.0) formed (agreed_below net at l.output.0 agrees (ap is_some all.0.output.held)), states_values net at ls formed agrees all.1)

next_values : (net : NetParts) (at : ℕ → ℕ) (ls : List FlatLatch) → WellFormed net → Agrees net.nets at → AllLatches net.nets ls → AllZip IsLatchValue (map (latch_port_of net.nets) ls) (map (λ (l : FlatLatch). at l.input.0) ls)
next_values net at [] formed agrees all = tt
next_values net at (l ∷ ls) formed agrees all =
    let low = agreed_below net at l.input.0 agrees (ap is_some all.0.input.held) in
    let same = all.0.values in
    (spelled_below net l.output.0 (at l.input.0) formed (omega arith), next_values net at ls formed agrees all.1)

resets_values : (net : NetParts) (at : ℕ → ℕ) (ls : List FlatLatch) (r : List ℕ) → WellFormed net → Agrees net.nets at → AllLatches net.nets ls → resets_give net.nets at ls r → AllZip IsLatchValue (map (latch_port_of net.nets) ls) r
resets_values net at [] [] formed agrees all g = tt
resets_values net at [] (v ∷ vs) formed agrees all g = absurd g
resets_values net at (l ∷ ls) [] formed agrees all g = absurd g
resets_values net at (l ∷ ls) (v ∷ vs) formed agrees all g =
    (spelled_below net l.output.0 v formed (by_reset l.reset (λ n e. all.0.reset n e) g.0), resets_values net at ls vs formed agrees all.1 g.1)
  where
    by_reset : (o : Option NetId) → ((n : NetId) → o ≡ Some n → IsResetNet net.nets l.output.0 n.0) → reset_gives net.nets at l.output o v → v < values_in (slot net.nets l.output.0)
    by_reset None is g = g
    by_reset (Some n) is g =
        let x = is n refl in
        let low = agreed_below net at n.0 agrees (ap is_some x.kind.held) in
        let at_reset = ap values_in x.kind.held in
        let at_output = ap values_in x.held in
        let same = x.values in
        omega arith

pub allowed_values : (net : NetParts) (i s o n r : List ℕ) → WellFormed net → Allows net i s o n r → AreValues (interface_of net) i s o n r
unfolding interface_of
allowed_values net i s o n r formed a =
    let I : List ℕ → Type 0 = λ vs. AllZip IsPortValue (map (port_of net.nets) net.inputs) vs in
    let O : List ℕ → Type 0 = λ vs. AllZip IsPortValue (map (port_of net.nets) net.outputs) vs in
    let L : List ℕ → Type 0 = λ vs. AllZip IsLatchValue (map (latch_port_of net.nets) net.latches) vs in
    record {
      inputs = subst I a.inputs (ports_values net a.at net.inputs formed a.agrees (inputs_held net formed));
      states = subst L a.states (states_values net a.at net.latches formed a.agrees formed.latches);
      outputs = subst O a.outputs (ports_values net a.at net.outputs formed a.agrees (outputs_held net formed));
      next = subst L a.next (next_values net a.at net.latches formed a.agrees formed.latches);
      resets = resets_values net a.at net.latches r formed a.agrees formed.latches a.resets;
    }
