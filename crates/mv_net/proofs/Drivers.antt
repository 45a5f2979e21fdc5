-- When networks over the same ports mean the same, or one may take the place of the other: by what is done with
-- each assignment that agrees with one of them.
use Rattle.std.proofs.Common.{◌≡◌, ◌∙◌, ℕ, ◌<◌, Bool, true, nat_eq, List, [], ◌∷◌, map, Option, Some, None, refl, sym, subst, eq-eqb}
use Rattle.std.proofs.lemmas.Bool.{or_left, or_right}
use Rattle.mv_base.specs.Meaning.{Refines, SameMeaning}
use Rattle.mv_base.specs.declared.number.NetId.{NetId}
use Rattle.mv_net.specs.declared.parts.FlatNet.{FlatNet}
use Rattle.mv_net.specs.declared.parts.FlatLatch.{FlatLatch}
use Rattle.mv_net.specs.declared.parts.NetParts.{NetParts}
use Rattle.mv_net.specs.Nets.{slot, values_in, port_of, latch_port_of, interface_of}
use Rattle.mv_net.specs.Formed.{latch_resets, with_reset}
use Rattle.mv_net.specs.Allowed.{Agrees, Allows, reset_gives, resets_give, of_net}
use Rattle.mv_net.specs.Changes.{with_nets}
use Rattle.mv_graph.specs.Nets.{has_id}
use Rattle.mv_net.proofs.Marks.{has_number}
use Rattle.mv_net.proofs.Ports.{is_latch_output, is_reset_net, is_shown, input_source, state_source, source_shown, output_shown, shown_port, next_port, reset_port, SameSources-from_ports, AgreesAtSources, AgreesAtPorts, KeepsPorts}

-- ---- lists of what the numbers have

-- functions that are the same at each number of the list give the same there
map-numbers : {X Y : Type 0} (num : X → ℕ) (f g : X → Y) (xs : List X) → ((x : X) → has_number num xs (num x) ≡ true → f x ≡ g x) → map f xs ≡ map g xs
map-numbers num f g [] same = refl
map-numbers num f g (x ∷ xs) same =
    let here : f x ≡ g x = same x (or_left (nat_eq (num x) (num x)) (has_number num xs (num x)) (eq-eqb (num x) (num x) refl)) in
    let rest : map f xs ≡ map g xs = map-numbers num f g xs (λ y h. same y (or_right (nat_eq (num x) (num y)) (has_number num xs (num y)) h)) in
    λ i. here i ∷ rest i

-- so assignments have one list of values at them
values-numbers : {X : Type 0} (num : X → ℕ) (x y : ℕ → ℕ) (xs : List X) → ((n : ℕ) → has_number num xs n ≡ true → x n ≡ y n) → map (λ v. y (num v)) xs ≡ map (λ v. x (num v)) xs
values-numbers num x y xs same = map-numbers num _ _ xs (λ v h. sym (same (num v) h))

-- ---- the interface

interface-kept : (net : NetParts) (nets : List (Option FlatNet)) → KeepsPorts net nets → interface_of (with_nets net nets) ≡ interface_of net
unfolding interface_of with_nets
interface-kept net nets keeps = λ i. record { inputs = inputs i; outputs = outputs i; latches = latches i }
  where
    port : (n : NetId) → is_shown net n.0 ≡ true → port_of nets n ≡ port_of net.nets n
    port n h = λ i. record { name = keeps.names n.0 h i; values = keeps.spelled n.0 h i }

    latch_port : (l : FlatLatch) → is_shown net l.output.0 ≡ true → latch_port_of nets l ≡ latch_port_of net.nets l
    latch_port l h = λ i. record (latch_port_of net.nets l) { name = keeps.names l.output.0 h i; values = keeps.spelled l.output.0 h i }

    inputs : map (port_of nets) net.inputs ≡ map (port_of net.nets) net.inputs
    inputs = map-numbers (λ (m : NetId). m.0) _ _ net.inputs (λ m h. port m (source_shown net m.0 (input_source net m.0 h)))

    outputs : map (port_of nets) net.outputs ≡ map (port_of net.nets) net.outputs
    outputs = map-numbers (λ (m : NetId). m.0) _ _ net.outputs (λ m h. port m (output_shown net m.0 h))

    latches : map (latch_port_of nets) net.latches ≡ map (latch_port_of net.nets) net.latches
    latches = map-numbers (λ (l : FlatLatch). l.output.0) _ _ net.latches (λ l h. latch_port l (source_shown net l.output.0 (state_source net l.output.0 h)))

-- ---- reset values

-- the reset value that y gives a latch which had this one
abbrev reset_now : (ℕ → ℕ) → Option NetId → ℕ → ℕ
reset_now y None v = v
reset_now y (Some n) v = y n.0

abbrev resets_now : (ℕ → ℕ) → List FlatLatch → List ℕ → List ℕ
resets_now y (l ∷ ls) (v ∷ vs) = reset_now y l.reset v ∷ resets_now y ls vs
resets_now y _ _ = []

-- y gives these, where the latches have as many values
reset_now-gives : (old new : List (Option FlatNet)) (x y : ℕ → ℕ) (output : NetId) (reset : Option NetId) (v : ℕ) → values_in (slot new output.0) ≡ values_in (slot old output.0) → reset_gives old x output reset v → reset_gives new y output reset (reset_now y reset v)
reset_now-gives old new x y output None v same h = subst (λ k. v < k) (sym same) h
reset_now-gives old new x y output (Some n) v same h = refl

resets_now-give : (old new : List (Option FlatNet)) (x y : ℕ → ℕ) (ls : List FlatLatch) (vs : List ℕ) → ((n : ℕ) → is_latch_output ls n ≡ true → values_in (slot new n) ≡ values_in (slot old n)) → resets_give old x ls vs → resets_give new y ls (resets_now y ls vs)
resets_now-give old new x y [] [] same h = tt
resets_now-give old new x y [] (v ∷ vs) same h = absurd h
resets_now-give old new x y (l ∷ ls) [] same h = absurd h
resets_now-give old new x y (l ∷ ls) (v ∷ vs) same h = (
  reset_now-gives old new x y l.output l.reset v (same l.output.0 (or_left (nat_eq l.output.0 l.output.0) (is_latch_output ls l.output.0) (eq-eqb l.output.0 l.output.0 refl))) h.0,
  resets_now-give old new x y ls vs (λ n o. same n (or_right (nat_eq l.output.0 n) (is_latch_output ls n) o)) h.1,
)

-- they are the old ones, where y is as x at the reset nets
reset_now-same : (nets : List (Option FlatNet)) (x y : ℕ → ℕ) (output : NetId) (reset : Option NetId) (ns : List NetId) (v : ℕ) → ((n : ℕ) → has_id (with_reset reset ns) n ≡ true → x n ≡ y n) → reset_gives nets x output reset v → reset_now y reset v ≡ v
reset_now-same nets x y output None ns v same h = refl
reset_now-same nets x y output (Some n) ns v same h = sym (h ∙ same n.0 (or_left (nat_eq n.0 n.0) (has_id ns n.0) (eq-eqb n.0 n.0 refl)))

has_reset-more : (reset : Option NetId) (ns : List NetId) (n : ℕ) → has_id ns n ≡ true → has_id (with_reset reset ns) n ≡ true
has_reset-more None ns n h = h
has_reset-more (Some m) ns n h = or_right (nat_eq m.0 n) (has_id ns n) h

resets_now-same : (nets : List (Option FlatNet)) (x y : ℕ → ℕ) (ls : List FlatLatch) (vs : List ℕ) → ((n : ℕ) → is_reset_net ls n ≡ true → x n ≡ y n) → resets_give nets x ls vs → resets_now y ls vs ≡ vs
resets_now-same nets x y [] [] same h = refl
resets_now-same nets x y [] (v ∷ vs) same h = absurd h
resets_now-same nets x y (l ∷ ls) [] same h = absurd h
resets_now-same nets x y (l ∷ ls) (v ∷ vs) same h =
    let here : reset_now y l.reset v ≡ v = reset_now-same nets x y l.output l.reset (latch_resets ls) v same h.0 in
    let rest : resets_now y ls vs ≡ vs = resets_now-same nets x y ls vs (λ n r. same n (has_reset-more l.reset (latch_resets ls) n r)) h.1 in
    λ i. here i ∷ rest i

-- ---- what is allowed

-- another assignment with the same sources allows what it gives
allows_sources : (net : NetParts) (old new : List (Option FlatNet)) (i s o n r : List ℕ) → ((m : ℕ) → is_latch_output net.latches m ≡ true → values_in (slot new m) ≡ values_in (slot old m)) → (a : Allows (with_nets net old) i s o n r) → (b : AgreesAtSources net new a.at) → Allows (with_nets net new) i s (map (λ (m : NetId). b.at m.0) net.outputs) (map (λ (l : FlatLatch). b.at l.input.0) net.latches) (resets_now b.at net.latches r)
unfolding with_nets
allows_sources net old new i s o n r values a b = record {
  at = b.at;
  agrees = b.agrees;
  inputs = values-numbers (λ (m : NetId). m.0) a.at b.at net.inputs (λ m h. b.same.each m (input_source net m h)) ∙ a.inputs;
  states = values-numbers (λ (l : FlatLatch). l.output.0) a.at b.at net.latches (λ m h. b.same.each m (state_source net m h)) ∙ a.states;
  outputs = refl;
  next = refl;
  resets = resets_now-give old new a.at b.at net.latches r values a.resets;
}

-- with the same ports it allows the same
allows_ports : (net : NetParts) (old new : List (Option FlatNet)) (i s o n r : List ℕ) → ((m : ℕ) → is_latch_output net.latches m ≡ true → values_in (slot new m) ≡ values_in (slot old m)) → (a : Allows (with_nets net old) i s o n r) → AgreesAtPorts net new a.at → Allows (with_nets net new) i s o n r
unfolding with_nets
allows_ports net old new i s o n r values a b =
    let sources : AgreesAtSources net new a.at = record { at = b.at; agrees = b.agrees; same = SameSources-from_ports net a.at b.at b.same } in
    let outputs = values-numbers (λ (m : NetId). m.0) a.at b.at net.outputs (λ m h. b.same.each m (shown_port net m (output_shown net m h))) ∙ a.outputs in
    let next = values-numbers (λ (l : FlatLatch). l.input.0) a.at b.at net.latches (λ m h. b.same.each m (next_port net m h)) ∙ a.next in
    let resets = resets_now-same old a.at b.at net.latches r (λ m h. b.same.each m (reset_port net m h)) a.resets in
    rw (← outputs, ← next, ← resets) (allows_sources net old new i s o n r values a sources)

-- ---- the drivers

-- the network with other nets means the same, if each assignment that agrees with the nets of one gives one with the
-- same ports that agrees with those of the other
pub SameMeaning-by : (net : NetParts) (nets : List (Option FlatNet)) → KeepsPorts net nets → ((x : ℕ → ℕ) → Agrees nets x → AgreesAtPorts net net.nets x) → ((x : ℕ → ℕ) → Agrees net.nets x → AgreesAtPorts net nets x) → SameMeaning (of_net (with_nets net nets)) (of_net net)
unfolding of_net with_nets
SameMeaning-by net nets keeps down up = record {
  same = interface-kept net nets keeps;
  only = λ i s o n r a. allows_ports net nets net.nets i s o n r (λ m h. sym (keeps.values m h)) a (down a.at a.agrees);
  all = λ i s o n r a. allows_ports net net.nets nets i s o n r keeps.values a (up a.at a.agrees);
}

-- it may take the other's place, if each assignment that agrees with its nets gives one with the same ports that agrees with the
-- other's, and each that agrees with the other's gives one with the same sources that agrees with its own
pub Refines-by : (free : Bool) (net : NetParts) (nets : List (Option FlatNet)) → KeepsPorts net nets → ((x : ℕ → ℕ) → Agrees nets x → AgreesAtPorts net net.nets x) → ((x : ℕ → ℕ) → Agrees net.nets x → AgreesAtSources net nets x) → Refines free (of_net (with_nets net nets)) (of_net net)
unfolding of_net with_nets
Refines-by free net nets keeps down up = record {
  narrows = record {
    same = interface-kept net nets keeps;
    only = λ i s o n r some a. allows_ports net nets net.nets i s o n r (λ m h. sym (keeps.values m h)) a (down a.at a.agrees);
  };
  some = λ i s some. record {
    o = _;
    n = _;
    r = _;
    allowed = allows_sources net net.nets nets i s some.o some.n some.r keeps.values some.allowed (up some.allowed.at some.allowed.agrees);
  };
}
