-- A network that may take the place of one that can be written as BLIF: when it can be written too, and that what is written then
-- means what the first one meant.
use Rattle.std.proofs.Common.{◌≡◌, ◌∙◌, ℕ, ◌≤◌, Bool, false, Some, List, [], ◌∷◌, length, sym, ap, subst}
use Rattle.std.specs.Prelude.{slice_get}
use Rattle.mv_base.specs.Meaning.{Refines, SameMeaning}
use Rattle.mv_base.specs.Names.{among}
use Rattle.mv_base.proofs.Meanings.{Refines-then}
use Rattle.mv_blif_back.specs.Said.{AreSaid, IsBinary, IsSaid}
use Rattle.mv_chosen.specs.Written.{AreFirstValues, written_nets}
use Rattle.mv_chosen.proofs.Choosing.{chosen_refines}
use Rattle.mv_chosen.proofs.OneChoice.{same_choices}
use Rattle.mv_chosen.proofs.Resets.{always_refined}
use Rattle.mv_chosen.proofs.Written.{written_chosen}
use Rattle.mv_cover.specs.declared.cover.Cover.{Cover}
use Rattle.mv_cover.specs.Plain.{AllowsOne}
use Rattle.mv_design.specs.Values.{two_values}
use Rattle.mv_latch.specs.declared.latch.BlifLatch.{BlifLatch}
use Rattle.mv_net.specs.declared.parts.FlatLatch.{FlatLatch}
use Rattle.mv_net.specs.declared.parts.NetParts.{NetParts}
use Rattle.mv_net.specs.Allowed.{of_net}
use Rattle.mv_net.specs.Changes.{with_nets}
use Rattle.mv_net.specs.Formed.{WellFormed, latch_outputs}
use Rattle.mv_net.specs.Nets.{slot, values_in, table_in, interface_of}
use Rattle.mv_net.specs.Total.{IsTotal}
use Rattle.mv_text.specs.Text.{names_of}
use Rattle.mv_blif_rules.proofs.Looks.{inputs_alike, outputs_alike, states_alike, names_alike, all_spelled}
use Rattle.mv_blif_rules.proofs.Strict.{total_strict}

-- ---- it can be written

-- a network of total tables can be written, if no net has more than two values and it looks like one that can
pub binary_alike : (net first : NetParts) → interface_of net ≡ interface_of first → ((n : ℕ) → values_in (slot net.nets n) ≤ 2) → ((n : ℕ) (c : Cover) → table_in (slot net.nets n) ≡ Some c → IsTotal net.nets c) → IsBinary first → IsBinary net
binary_alike net first alike few total binary = record {
  few = few;
  inputs = record { each = all_spelled two_values net.nets first.nets net.inputs first.inputs (inputs_alike net first alike) binary.inputs.each };
  outputs = record { each = all_spelled two_values net.nets first.nets net.outputs first.outputs (outputs_alike net first alike) binary.outputs.each };
  latches =
      record { each = all_spelled two_values net.nets first.nets (latch_outputs net.latches) (latch_outputs first.latches) (states_alike net first alike) binary.latches.each };
  total = total;
}

-- what is said of latches can be written, where the inputs have the same names
said_alike : (net first : NetParts) (l : FlatLatch) (b : BlifLatch) → names_of net.nets net.inputs ≡ names_of first.nets first.inputs → IsSaid first l b → IsSaid net l b
said_alike net first l b names is = record {
  bare = is.bare;
  control = λ w e. ap (λ ws. among w ws) names ∙ is.control w e;
  plain = is.plain;
  init = is.init;
  reset = is.reset;
}

all_said : (net first : NetParts) (ls : List FlatLatch) (bs : List BlifLatch) → names_of net.nets net.inputs ≡ names_of first.nets first.inputs → AreSaid first ls bs → AreSaid net ls bs
all_said net first [] [] names all = tt
all_said net first [] (b ∷ bs) names all = absurd all
all_said net first (l ∷ ls) [] names all = absurd all
all_said net first (l ∷ ls) (b ∷ bs) names all = (said_alike net first l b names all.0, all_said net first ls bs names all.1)

pub are_said_alike : (net first : NetParts) (bs : List BlifLatch) → interface_of net ≡ interface_of first → net.latches ≡ first.latches → AreSaid first first.latches bs → AreSaid net net.latches bs
are_said_alike net first bs alike latches all =
    let names = names_alike net.nets first.nets net.inputs first.inputs (inputs_alike net first alike) in
    subst (λ ls. AreSaid net ls bs) (sym latches) (all_said net first first.latches bs names all)

-- ---- what is written means the same

first_values : (net first : NetParts) (vs : List ℕ) → net.latches ≡ first.latches → Refines false (of_net net) (of_net first) → AreFirstValues first vs → AreFirstValues net vs
first_values net first vs latches refines are = record {
  long = are.long ∙ ap (λ ls. length ls) (sym latches);
  always = λ place v l n there reset value.
      always_refined net first place v refines
      (are.always place v l n (subst (λ ls. slice_get ls place ≡ Some l) latches there) reset value);
}

pub written_means : (free : Bool) (net first : NetParts) (vs : List ℕ) → WellFormed net → IsBinary net → net.latches ≡ first.latches → Refines free (of_net net) (of_net first)
    → WellFormed first → IsBinary first → AreFirstValues first vs → ((n : ℕ) (c : Cover) → table_in (slot first.nets n) ≡ Some c → AllowsOne c)
    → SameMeaning (of_net (with_nets net (written_nets net vs))) (of_net first)
written_means free net first vs formed binary latches refines first_formed first_binary are one =
    let nets = written_nets net vs in
    let strict = total_strict free net first formed first_formed first_binary.total refines in
    let chosen = written_chosen net vs formed binary.total binary.few (first_values net first vs latches strict are) in
    let written = chosen_refines net nets formed binary.total chosen false in
    same_choices first first_formed one net nets formed chosen.alike (Refines-then false (of_net (with_nets net nets)) (of_net net) (of_net first) written strict)
