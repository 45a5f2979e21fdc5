-- Values by name that the model of the lines allows, and values by number that the network's tables allow.
use Rattle.std.proofs.Common.{◌≡◌, ◌∙◌, ℕ, ◌+◌, ◌≤◌, zero, suc, true, false, List, [], ◌∷◌, length, map, Option, Some, None, slice_get, refl, sym, ap}
use Rattle.std.specs.List.{list_all}
use Rattle.std.proofs.lemmas.Bool.{cond_both, cond-false, and_parts, and_from, or_left, or_right, eq-eqb}
use Rattle.std.proofs.lemmas.List.Folds.{list_all-append}
use Rattle.std.proofs.lemmas.Option.{same_Some}
use Rattle.mv_base.specs.declared.number.NetId.{NetId}
use Rattle.mv_cover.specs.declared.cover.Cover.{Cover}
use Rattle.mv_cover.specs.Covers.{allowed}
use Rattle.mv_design.specs.declared.design.FileLatch.{FileLatch}
use Rattle.mv_design.specs.Meaning.{table_holds}
use Rattle.mv_design.specs.Nets.{latch_inputs, latch_outputs}
use Rattle.mv_graph.specs.Nets.{has_id}
use Rattle.mv_latch.specs.declared.latch.BlifLatch.{BlifLatch}
use Rattle.mv_net.specs.declared.parts.FlatLatch.{FlatLatch}
use Rattle.mv_net.specs.declared.parts.FlatNet.{FlatNet}
use Rattle.mv_net.specs.declared.parts.NetParts.{NetParts}
use Rattle.mv_net.specs.Nets.{slot, values_in}
use Rattle.mv_net.specs.Index.{is_reset}
use Rattle.mv_net.specs.Formed.{IsReadable, AllLatches, WellFormed}
use Rattle.mv_text.specs.Text.{fanins_of, names_of}
use Rattle.mv_chosen.specs.Binary.{binary_choice}
use Rattle.mv_blif_text.specs.BlifText.{net_words}
use Rattle.mv_blif_back.specs.Alike.{AreAlike, ChoicesHold}
use Rattle.mv_blif_back.specs.Model.{gate_said, cover_said, net_said, tables_said, latches_said, model_said}
use Rattle.mv_blif_back.proofs.Picks.{slot-at}
use Rattle.mv_blif_back.proofs.Meanings.{gate-holds}
use Rattle.mv_blif_back.proofs.Written.{input-readable, latch-readable}

-- each of these stands at some number
abbrev pub AreHeld : List (Option FlatNet) → List (Option FlatNet) → Type 0
AreHeld nets fs = (k : ℕ) (o : Option FlatNet) → slice_get fs k ≡ Some o → (n : ℕ) × (slot nets n ≡ o)

-- and all do
pub held_all : (nets : List (Option FlatNet)) → AreHeld nets nets
held_all nets k o e = (k, slot-at nets k o e)

-- a held net has a place
place_of : (nets : List (Option FlatNet)) (n : ℕ) (f : FlatNet) → slot nets n ≡ Some f → slice_get nets n ≡ Some (Some f)
place_of [] n f e = cc
place_of (o ∷ nets) zero f e = ap (λ x. Some x) e
place_of (o ∷ nets) (suc n) f e = place_of nets n f e

module _ (net : NetParts) (formed : WellFormed net) (value : List ℕ → ℕ) (at : ℕ → ℕ) (alike : AreAlike net value at) where
  -- ---- ports

  pub named-values : (ns : List NetId) → ((n : NetId) → has_id ns n.0 ≡ true → IsReadable net.nets n.0) → map value (names_of net.nets ns) ≡ map (λ (n : NetId). at n.0) ns
  named-values [] readable = refl
  named-values (n ∷ ns) readable =
      ap (λ v. v ∷ map value (names_of net.nets ns)) (alike.same n.0 (readable n (or_left _ _ (eq-eqb n.0 n.0 refl))))
      ∙ ap (λ vs. at n.0 ∷ vs) (named-values ns (λ m s. readable m (or_right _ _ s)))

  output_values : (line : ℕ) (ls : List FlatLatch) → AllLatches net.nets ls → map value (map (λ (h : FileLatch). h.output) (latches_said net.nets line ls)) ≡ map (λ (l : FlatLatch). at l.output.0) ls
  output_values line [] all = refl
  output_values line (l ∷ ls) all =
      ap (λ v. v ∷ map value (map (λ (h : FileLatch). h.output) (latches_said net.nets (line + 1) ls))) (alike.same l.output.0 (latch-readable net formed l.output.0 all.0.output))
      ∙ ap (λ vs. at l.output.0 ∷ vs) (output_values (line + 1) ls all.1)

  input_values : (line : ℕ) (ls : List FlatLatch) → AllLatches net.nets ls → map value (map (λ (h : FileLatch). h.input) (latches_said net.nets line ls)) ≡ map (λ (l : FlatLatch). at l.input.0) ls
  input_values line [] all = refl
  input_values line (l ∷ ls) all =
      ap (λ v. v ∷ map value (map (λ (h : FileLatch). h.input) (latches_said net.nets (line + 1) ls))) (alike.same l.input.0 all.0.input)
      ∙ ap (λ vs. at l.input.0 ∷ vs) (input_values (line + 1) ls all.1)

  module _ (bs : List BlifLatch) where
    pub inputs-same : map value (model_said net bs).inputs ≡ map (λ (n : NetId). at n.0) net.inputs
    unfolding model_said
    inputs-same = named-values net.inputs (λ n s. input-readable net formed n.0 (formed.inputs.only n s))

    pub outputs-same : map value (model_said net bs).outputs ≡ map (λ (n : NetId). at n.0) net.outputs
    unfolding model_said
    outputs-same = named-values net.outputs formed.outputs

    pub states-same : map value (latch_outputs (model_said net bs)) ≡ map (λ (l : FlatLatch). at l.output.0) net.latches
    unfolding model_said
    states-same = output_values 4 net.latches formed.latches

    pub next-same : map value (latch_inputs (model_said net bs)) ≡ map (λ (l : FlatLatch). at l.input.0) net.latches
    unfolding model_said
    next-same = input_values 4 net.latches formed.latches

  -- ---- tables

  module _ (few : (m : ℕ) → values_in (slot net.nets m) ≤ 2) where
    -- the tables hold where the choices do
    cover_hold : (line n : ℕ) (f : FlatNet) (t : Option Cover) → slot net.nets n ≡ Some f → f.table ≡ t → is_reset (Some f.kind) ≡ false → ChoicesHold net value at → list_all (table_holds value) (cover_said net.nets line f.name t) ≡ true
    cover_hold line n f None held table other each = refl
    cover_hold line n f (Some c) held table other each =
        and_from (table_holds value (gate_said net.nets line f.name (fanins_of (length net.nets) c) c)) true (gate-holds net n line f c value at formed few held table alike ∙ each n f c held table other) refl

    net_hold : (line n : ℕ) (o : Option FlatNet) → slot net.nets n ≡ o → ChoicesHold net value at → list_all (table_holds value) (net_said net.nets line o) ≡ true
    net_hold line n None held each = refl
    net_hold line n (Some f) held each =
        cond_both (is_reset (Some f.kind)) [] (cover_said net.nets line f.name f.table) (λ ts. list_all (table_holds value) ts ≡ true) (λ y. refl) (λ other. cover_hold line n f f.table held refl other each)

    all_hold : (line : ℕ) (fs : List (Option FlatNet)) → AreHeld net.nets fs → ChoicesHold net value at → list_all (table_holds value) (tables_said net.nets line fs) ≡ true
    all_hold line [] held each = refl
    all_hold line (o ∷ fs) held each =
        let here = held zero o refl in
        list_all-append (table_holds value) (net_said net.nets line o) (tables_said net.nets (line + length (net_words net.nets o)) fs)
        ∙ and_from (list_all (table_holds value) (net_said net.nets line o)) _ (net_hold line here.0 o here.1 each) (all_hold (line + length (net_words net.nets o)) fs (λ k x e. held (suc k) x e) each)

    -- and the other way round
    cover_says : (line n : ℕ) (f : FlatNet) (c : Cover) (t : Option Cover) → slot net.nets n ≡ Some f → f.table ≡ Some c → t ≡ Some c → list_all (table_holds value) (cover_said net.nets line f.name t) ≡ true → allowed (binary_choice c) at (value f.name) ≡ true
    cover_says line n f c None held table e all = cc
    cover_says line n f c (Some d) held table e all =
        let same : d ≡ c = same_Some d c e in
        let gate = λ (x : Cover). gate_said net.nets line f.name (fanins_of (length net.nets) x) x in
        sym (gate-holds net n line f c value at formed few held table alike) ∙ (ap (λ x. table_holds value (gate x)) (sym same) ∙ (and_parts (table_holds value (gate d)) true all).0)

    some_say : (line : ℕ) (fs : List (Option FlatNet)) (k n : ℕ) (f : FlatNet) (c : Cover) → slice_get fs k ≡ Some (Some f) → slot net.nets n ≡ Some f → f.table ≡ Some c → is_reset (Some f.kind) ≡ false
        → list_all (table_holds value) (tables_said net.nets line fs) ≡ true → allowed (binary_choice c) at (value f.name) ≡ true
    some_say line [] k n f c e held table other all = cc
    some_say line (o ∷ fs) zero n f c e held table other all =
        let front = net_said net.nets line o in
        let rest = tables_said net.nets (line + length (net_words net.nets o)) fs in
        let both = and_parts (list_all (table_holds value) front) (list_all (table_holds value) rest) (sym (list_all-append (table_holds value) front rest) ∙ all) in
        let here : list_all (table_holds value) (net_said net.nets line (Some f)) ≡ true = ap (λ x. list_all (table_holds value) (net_said net.nets line x)) (sym (same_Some o (Some f) e)) ∙ both.0 in
        cover_says line n f c f.table held table table (ap (list_all (table_holds value)) (sym (cond-false (is_reset (Some f.kind)) [] (cover_said net.nets line f.name f.table) other)) ∙ here)
    some_say line (o ∷ fs) (suc k) n f c e held table other all =
        let front = net_said net.nets line o in
        let rest = tables_said net.nets (line + length (net_words net.nets o)) fs in
        let both = and_parts (list_all (table_holds value) front) (list_all (table_holds value) rest) (sym (list_all-append (table_holds value) front rest) ∙ all) in
        some_say (line + length (net_words net.nets o)) fs k n f c e held table other both.1

    module _ (bs : List BlifLatch) where
      pub tables-hold : ChoicesHold net value at → list_all (table_holds value) (model_said net bs).tables ≡ true
      unfolding model_said
      tables-hold each = all_hold (4 + length net.latches) net.nets (held_all net.nets) each

      pub tables-say : list_all (table_holds value) (model_said net bs).tables ≡ true → ChoicesHold net value at
      unfolding model_said
      tables-say all n f c held table other = some_say (4 + length net.latches) net.nets n n f c (place_of net.nets n f held) held table other all
