-- The ports of a network, by which it is seen from outside: assignments with the same values there, and nets that look
-- the same there.
use Rattle.std.proofs.Common.{◌≡◌, ℕ, Bool, true, false, ◌||◌, nat_eq, List, [], ◌∷◌, Option, ap, refl}
use Rattle.std.proofs.lemmas.Bool.{or_left, or_right, or_from, or_parts}
use Rattle.mv_net.specs.declared.parts.FlatNet.{FlatNet}
use Rattle.mv_net.specs.declared.parts.FlatLatch.{FlatLatch}
use Rattle.mv_net.specs.declared.parts.NetParts.{NetParts}
use Rattle.mv_net.specs.Nets.{slot, values_in, name_in, spelled_in}
use Rattle.mv_net.specs.Formed.{latch_outputs, latch_resets}
use Rattle.mv_net.specs.Allowed.{Agrees}
use Rattle.mv_graph.specs.Nets.{has_id}
use Rattle.mv_net.specs.Index.{is_latch_input}
use Rattle.mv_net.proofs.Marks.{has_number}
use Rattle.mv_net.proofs.Patches.{other_than}

-- ---- which nets are ports

-- the net is the output of one of these latches, or the reset net of one
abbrev pub is_latch_output : List FlatLatch → ℕ → Bool
is_latch_output latches n = has_number (λ (l : FlatLatch). l.output.0) latches n

abbrev pub is_reset_net : List FlatLatch → ℕ → Bool
is_reset_net latches n = has_id (latch_resets latches) n

-- the net is an input or a latch output, whose values are given
abbrev pub is_source : NetParts → ℕ → Bool
is_source net n = has_id net.inputs n || is_latch_output net.latches n

-- the interface names the net
abbrev pub is_shown : NetParts → ℕ → Bool
is_shown net n = is_source net n || has_id net.outputs n

-- the net's values are those of an input, an output or a latch
abbrev pub is_port : NetParts → ℕ → Bool
is_port net n = is_shown net n || (is_latch_input net.latches n || is_reset_net net.latches n)

pub input_source : (net : NetParts) (n : ℕ) → has_id net.inputs n ≡ true → is_source net n ≡ true
input_source net n h = or_left (has_id net.inputs n) (is_latch_output net.latches n) h

pub state_source : (net : NetParts) (n : ℕ) → is_latch_output net.latches n ≡ true → is_source net n ≡ true
state_source net n h = or_right (has_id net.inputs n) (is_latch_output net.latches n) h

pub source_shown : (net : NetParts) (n : ℕ) → is_source net n ≡ true → is_shown net n ≡ true
source_shown net n h = or_left (is_source net n) (has_id net.outputs n) h

pub output_shown : (net : NetParts) (n : ℕ) → has_id net.outputs n ≡ true → is_shown net n ≡ true
output_shown net n h = or_right (is_source net n) (has_id net.outputs n) h

pub shown_port : (net : NetParts) (n : ℕ) → is_shown net n ≡ true → is_port net n ≡ true
shown_port net n h = or_left (is_shown net n) (is_latch_input net.latches n || is_reset_net net.latches n) h

pub next_port : (net : NetParts) (n : ℕ) → is_latch_input net.latches n ≡ true → is_port net n ≡ true
next_port net n h =
    or_right (is_shown net n) (is_latch_input net.latches n || is_reset_net net.latches n) (or_left (is_latch_input net.latches n) (is_reset_net net.latches n) h)

pub reset_port : (net : NetParts) (n : ℕ) → is_reset_net net.latches n ≡ true → is_port net n ≡ true
reset_port net n h =
    or_right (is_shown net n) (is_latch_input net.latches n || is_reset_net net.latches n) (or_right (is_latch_input net.latches n) (is_reset_net net.latches n) h)

-- the net is no port, kind by kind
pub record IsHidden (net : NetParts) (n : ℕ) : Type 0 where
  pub input : has_id net.inputs n ≡ false
  pub output : has_id net.outputs n ≡ false
  pub next : is_latch_input net.latches n ≡ false
  pub state : is_latch_output net.latches n ≡ false
  pub reset : is_reset_net net.latches n ≡ false

pub IsHidden-from : (net : NetParts) (n : ℕ) → is_port net n ≡ false → IsHidden net n
IsHidden-from net n none =
    let all = or_parts (is_shown net n) (is_latch_input net.latches n || is_reset_net net.latches n) none in
    let latch = or_parts (is_latch_input net.latches n) (is_reset_net net.latches n) all.1 in
    let shown = or_parts (is_source net n) (has_id net.outputs n) all.0 in
    let source = or_parts (has_id net.inputs n) (is_latch_output net.latches n) shown.0 in
    record { input = source.0; output = shown.1; next = latch.0; state = source.1; reset = latch.1 }

pub hidden_no_port : (net : NetParts) (n : ℕ) → IsHidden net n → is_port net n ≡ false
hidden_no_port net n h =
    or_from (is_shown net n) (is_latch_input net.latches n || is_reset_net net.latches n)
    (or_from (is_source net n) (has_id net.outputs n) (or_from (has_id net.inputs n) (is_latch_output net.latches n) h.input h.state) h.output)
    (or_from (is_latch_input net.latches n) (is_reset_net net.latches n) h.next h.reset)

-- the outputs of latches, as a list
pub outputs_listed : (ls : List FlatLatch) (n : ℕ) → has_id (latch_outputs ls) n ≡ is_latch_output ls n
outputs_listed [] n = refl
outputs_listed (l ∷ ls) n = ap (λ b. nat_eq l.output.0 n || b) (outputs_listed ls n)

-- ---- assignments

-- x and y have the same values at the sources, or at all ports
pub record SameSources (net : NetParts) (x y : ℕ → ℕ) : Type 0 where
  pub each : (n : ℕ) → is_source net n ≡ true → x n ≡ y n

pub record SamePorts (net : NetParts) (x y : ℕ → ℕ) : Type 0 where
  pub each : (n : ℕ) → is_port net n ≡ true → x n ≡ y n

pub SameSources-from_ports : (net : NetParts) (x y : ℕ → ℕ) → SamePorts net x y → SameSources net x y
SameSources-from_ports net x y same = record { each = λ n h. same.each n (shown_port net n (source_shown net n h)) }

pub SamePorts-refl : (net : NetParts) (x : ℕ → ℕ) → SamePorts net x x
SamePorts-refl net x = record { each = λ n h. refl }

-- they have, if they differ at a net alone that is no port
pub SamePorts-but : (net : NetParts) (n : ℕ) (x y : ℕ → ℕ) → is_port net n ≡ false → ((m : ℕ) → (m ≡ n → ⊥) → x m ≡ y m) → SamePorts net x y
SamePorts-but net n x y hidden others = record { each = λ m h. others m (other_than (is_port net) n m hidden h) }

-- some assignment with the values of x at the sources, or at all ports, agrees with the nets
pub record AgreesAtSources (net : NetParts) (nets : List (Option FlatNet)) (x : ℕ → ℕ) : Type 0 where
  pub at : ℕ → ℕ
  pub agrees : Agrees nets at
  pub same : SameSources net x at

pub record AgreesAtPorts (net : NetParts) (nets : List (Option FlatNet)) (x : ℕ → ℕ) : Type 0 where
  pub at : ℕ → ℕ
  pub agrees : Agrees nets at
  pub same : SamePorts net x at

-- ---- nets

-- the nets look as those of the network where they are shown, and the latches have as many values
pub record KeepsPorts (net : NetParts) (nets : List (Option FlatNet)) : Type 0 where
  pub names : (n : ℕ) → is_shown net n ≡ true → name_in (slot nets n) ≡ name_in (slot net.nets n)
  pub spelled : (n : ℕ) → is_shown net n ≡ true → spelled_in (slot nets n) ≡ spelled_in (slot net.nets n)
  pub values : (n : ℕ) → is_latch_output net.latches n ≡ true → values_in (slot nets n) ≡ values_in (slot net.nets n)

-- they do, if those shown are the same
pub KeepsPorts-same : (net : NetParts) (nets : List (Option FlatNet)) → ((n : ℕ) → is_shown net n ≡ true → slot nets n ≡ slot net.nets n) → KeepsPorts net nets
KeepsPorts-same net nets same = record {
  names = λ n h. ap name_in (same n h);
  spelled = λ n h. ap spelled_in (same n h);
  values = λ n h. ap values_in (same n (source_shown net n (state_source net n h)));
}
