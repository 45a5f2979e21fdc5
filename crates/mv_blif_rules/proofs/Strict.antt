-- A network each table of which is total allows something under all values that its inputs and latches may have. So where it may be
-- replaced nothing is free.
use Rattle.std.proofs.Common.{◌≡◌, ◌∙◌, ℕ, zero, ◌<◌, Bool, true, false, Option, Some, None, List, [], ◌∷◌, map, is_some, refl, sym, ap, subst}
use Rattle.std.proofs.lemmas.Bool.{false_from_ne_true}
use Rattle.std.proofs.lemmas.Simd.{map-map}
use Rattle.mv_base.specs.Meaning.{AllowsSome, Refines}
use Rattle.mv_base.specs.declared.number.NetId.{NetId}
use Rattle.mv_cover.specs.declared.cover.Cover.{Cover}
use Rattle.mv_graph.specs.Nets.{has_id}
use Rattle.mv_net.specs.declared.parts.Kind.TheVariants.{Input, Latch}
use Rattle.mv_net.specs.declared.parts.FlatLatch.{FlatLatch}
use Rattle.mv_net.specs.declared.parts.FlatNet.{FlatNet}
use Rattle.mv_net.specs.declared.parts.NetParts.{NetParts}
use Rattle.mv_net.specs.Allowed.{reset_gives, resets_give, Allows, of_net}
use Rattle.mv_net.specs.Formed.{IsKind, AllLatches, WellFormed, latch_outputs}
use Rattle.mv_net.specs.Index.{kind_in}
use Rattle.mv_net.specs.Nets.{slot, values_in, table_in, interface_of}
use Rattle.mv_net.specs.Total.{IsTotal}
use Rattle.mv_net.proofs.Known.{values_some}
use Rattle.mv_net.proofs.Ports.{input_source, state_source, outputs_listed, AgreesAtSources}
use Rattle.mv_blif_rules.proofs.Given.{AreLow, agreeing_value, low_alike, given, given_other, given_low, given_at}
use Rattle.mv_blif_rules.proofs.Looks.{inputs_alike, states_alike}
use Rattle.mv_blif_rules.proofs.Settled.{settled_from}

-- ---- reset values

some_reset : (nets : List (Option FlatNet)) (x : ℕ → ℕ) (output : NetId) (reset : Option NetId) → 0 < values_in (slot nets output.0) → (v : ℕ) × reset_gives nets x output reset v
some_reset nets x output None some = (zero, some)
some_reset nets x output (Some n) some = (x n.0, refl)

-- an assignment gives each latch some reset value
some_resets : (net : NetParts) (x : ℕ → ℕ) (ls : List FlatLatch) → WellFormed net → AllLatches net.nets ls → (r : List ℕ) × resets_give net.nets x ls r
some_resets net x [] formed all = ([], tt)
some_resets net x (l ∷ ls) formed all =
    let here = some_reset net.nets x l.output l.reset (values_some net l.output.0 formed (ap (λ f. is_some f) all.0.output.held)) in
    let rest = some_resets net x ls formed all.1 in
    (here.0 ∷ rest.0, (here.1, rest.1))

-- ---- some choice

-- no net is an input and the output of a latch
two_kinds : (nets : List (Option FlatNet)) (n : ℕ) → IsKind nets n Input → IsKind nets n Latch → ⊥
two_kinds nets n input latch =
    let first : kind_in (slot nets n) ≡ Some Input = ap kind_in input.held ∙ ap (λ k. Some k) input.is in
    let second : kind_in (slot nets n) ≡ Some Latch = ap kind_in latch.held ∙ ap (λ k. Some k) latch.is in
    cc

module _ (b a : NetParts) (formed_b : WellFormed b) (formed_a : WellFormed a) (total : (n : ℕ) (c : Cover) → table_in (slot a.nets n) ≡ Some c → IsTotal a.nets c) (alike : interface_of b ≡ interface_of a) (i s o n r : List ℕ) (h : Allows b i s o n r) where
  inputs_low : AreLow a.nets a.inputs i
  inputs_low =
      subst (AreLow a.nets a.inputs) h.inputs
      (low_alike b a h.at b.inputs a.inputs formed_b formed_a (inputs_alike b a alike)
      (λ k listed. let is = formed_b.inputs.only k listed in agreeing_value b.nets h.at k.0 is.net h.agrees is.held))

  states_low : AreLow a.nets (latch_outputs a.latches) s
  states_low =
      subst (AreLow a.nets (latch_outputs a.latches)) (map-map (λ (m : NetId). h.at m.0) (λ (l : FlatLatch). l.output) b.latches ∙ h.states)
      (low_alike b a h.at (latch_outputs b.latches) (latch_outputs a.latches) formed_b formed_a (states_alike b a alike)
      (λ k listed. let is = formed_b.states.only k listed in agreeing_value b.nets h.at k.0 is.net h.agrees is.held))

  -- the values of the inputs and the latches, and 0 elsewhere
  abbrev states_given : ℕ → ℕ
  states_given m = given (latch_outputs a.latches) s (λ k. zero) m

  abbrev all_given : ℕ → ℕ
  all_given m = given a.inputs i states_given m

  all_low : (m : ℕ) → 0 < values_in (slot a.nets m) → all_given m < values_in (slot a.nets m)
  all_low m some =
      given_low a.nets a.inputs i states_given m inputs_low
      (given_low a.nets (latch_outputs a.latches) s (λ k. zero) m states_low some)

  agreeing : AgreesAtSources a a.nets all_given
  agreeing = settled_from a formed_a total all_given all_low

  no_input : (m : ℕ) → has_id (latch_outputs a.latches) m ≡ true → has_id a.inputs m ≡ false
  no_input m listed =
      false_from_ne_true (has_id a.inputs m)
      (λ also. two_kinds a.nets m (formed_a.inputs.only (record { 0 = m }) also) (formed_a.states.only (record { 0 = m }) listed))

  inputs_are : map (λ (m : NetId). agreeing.at m.0) a.inputs ≡ i
  inputs_are =
      given_at a.nets a.inputs i states_given agreeing.at formed_a.inputs.once inputs_low
      (λ m listed. sym (agreeing.same.each m (input_source a m listed)))

  states_are : map (λ (l : FlatLatch). agreeing.at l.output.0) a.latches ≡ s
  states_are =
      sym (map-map (λ (m : NetId). agreeing.at m.0) (λ (l : FlatLatch). l.output) a.latches)
      ∙ given_at a.nets (latch_outputs a.latches) s (λ k. zero) agreeing.at formed_a.states.once states_low
      (λ m listed. sym (agreeing.same.each m (state_source a m (sym (outputs_listed a.latches m) ∙ listed))) ∙ given_other a.inputs i states_given m (no_input m listed))

  some_choice : AllowsSome (of_net a) i s
  unfolding of_net
  some_choice =
      let resets = some_resets a agreeing.at a.latches formed_a formed_a.latches in
      record {
        o = map (λ (m : NetId). agreeing.at m.0) a.outputs;
        n = map (λ (l : FlatLatch). agreeing.at l.input.0) a.latches;
        r = resets.0;
        allowed = record {
          at = agreeing.at;
          agrees = agreeing.agrees;
          inputs = inputs_are;
          states = states_are;
          outputs = refl;
          next = refl;
          resets = resets.1;
        };
      }

-- ---- nothing is free

pub total_strict : (free : Bool) (b a : NetParts) → WellFormed b → WellFormed a → ((n : ℕ) (c : Cover) → table_in (slot a.nets n) ≡ Some c → IsTotal a.nets c) → Refines free (of_net b) (of_net a) → Refines false (of_net b) (of_net a)
unfolding of_net
total_strict free b a formed_b formed_a total refines = record {
  narrows = record {
    same = refines.narrows.same;
    only = λ i s o n r asked h. refines.narrows.only i s o n r (λ is_free. some_choice b a formed_b formed_a total refines.narrows.same i s o n r h) h;
  };
  some = refines.some;
}
