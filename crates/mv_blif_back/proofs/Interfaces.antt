-- The model that the lines of a network say is seen from outside as the network is.
use Rattle.std.proofs.Common.{◌≡◌, ◌∙◌, ℕ, ◌+◌, zero, suc, Bool, true, false, not, ◌&&◌, ◌||◌, List, [], ◌∷◌, map, Some, slice_get, refl, sym, ap, subst}
use Rattle.std.specs.Prelude.{nat_eq, nat_lt, if◌then◌else◌}
use Rattle.std.specs.List.{list_any}
use Rattle.std.proofs.lemmas.Bool.{and_parts, and_right, or_from, or_parts, or_left, or_right, eq-eqb, not-true, false≢true, false_from_ne_true}
use Rattle.std.proofs.lemmas.List.Folds.{list_any-append}
use Rattle.std.proofs.lemmas.Option.{same_Some}
use Rattle.mv_base.specs.Names.{among, same_word}
use Rattle.mv_base.specs.declared.number.NetId.{NetId}
use Rattle.mv_base.proofs.NameLemmas.{same_word_is, same_word_refl}
use Rattle.mv_design.specs.declared.table.FileTable.{FileTable}
use Rattle.mv_design.specs.declared.design.FileModel.{FileModel}
use Rattle.mv_design.specs.Meaning.{port, latch_port, of_model}
use Rattle.mv_design.specs.Values.{two_values, values_of}
use Rattle.mv_graph.specs.Nets.{has_id, all_differ}
use Rattle.mv_latch.specs.declared.latch.BlifLatch.{BlifLatch}
use Rattle.mv_net.specs.declared.parts.FlatLatch.{FlatLatch}
use Rattle.mv_net.specs.declared.parts.NetParts.{NetParts}
use Rattle.mv_net.specs.Nets.{slot, name_in, spelled_in, port_of, has_reset, latch_port_of, interface_of}
use Rattle.mv_net.specs.Formed.{IsLatch, AllLatches, latch_outputs, WellFormed}
use Rattle.mv_text.specs.Text.{names_of}
use Rattle.mv_blif_line.specs.Latches.{constant_reset}
use Rattle.mv_blif_back.specs.Said.{AreSaid, IsBinary}
use Rattle.mv_blif_back.specs.Model.{latches_said, reset_said, resets_said, model_said}

-- ---- inputs and outputs

ports_same : (net : NetParts) (m : FileModel) (ns : List NetId) → m.decls ≡ [] → ((n : NetId) → has_id ns n.0 ≡ true → spelled_in (slot net.nets n.0) ≡ two_values) → map (port m) (names_of net.nets ns) ≡ map (port_of net.nets) ns
ports_same net m [] bare plain = refl
ports_same net m (n ∷ ns) bare plain =
    let name = name_in (slot net.nets n.0) in
    let values : values_of m.decls name ≡ spelled_in (slot net.nets n.0) = ap (λ ds. values_of ds name) bare ∙ sym (plain n (or_left _ _ (eq-eqb n.0 n.0 refl))) in
    let here : port m name ≡ port_of net.nets n = ap (λ vs. record { name = name; values = vs }) values in
    ap (λ p. p ∷ map (port m) (names_of net.nets ns)) here ∙ ap (λ ps. port_of net.nets n ∷ ps) (ports_same net m ns bare (λ k s. plain k (or_right _ _ s)))

-- ---- reset tables

-- some of these tables has the name of this latch
abbrev some_names : List ℕ → List FileTable → Bool
some_names w ts = list_any (λ (t : FileTable). among w t.outputs) ts

pub latch_at : (net : NetParts) (ls : List FlatLatch) (k : ℕ) (l : FlatLatch) → AllLatches net.nets ls → slice_get ls k ≡ Some l → IsLatch net.nets l
latch_at net [] k l all e = cc
latch_at net (m ∷ ls) zero l all e = subst (IsLatch net.nets) (same_Some m l e) all.0
latch_at net (m ∷ ls) (suc k) l all e = latch_at net ls k l all.1 e

pub stands_at : (ls : List FlatLatch) (k : ℕ) (l : FlatLatch) → slice_get ls k ≡ Some l → has_id (latch_outputs ls) l.output.0 ≡ true
stands_at [] k l e = cc
stands_at (m ∷ ls) zero l e =
    subst (λ (x : FlatLatch). has_id (latch_outputs (m ∷ ls)) x.output.0 ≡ true) (same_Some m l e) (or_left (nat_eq m.output.0 m.output.0) _ (eq-eqb m.output.0 m.output.0 refl))
stands_at (m ∷ ls) (suc k) l e = or_right (nat_eq m.output.0 l.output.0) _ (stands_at ls k l e)

module _ (net : NetParts) (formed : WellFormed net) where
  abbrev pub latch_name : FlatLatch → List ℕ
  latch_name l = name_in (slot net.nets l.output.0)

  pub one_latch : (l m : FlatLatch) → IsLatch net.nets l → IsLatch net.nets m → same_word (latch_name l) (latch_name m) ≡ true → l.output.0 ≡ m.output.0
  one_latch l m a b y =
      formed.names l.output.0 m.output.0 a.output.net b.output.net a.output.held b.output.held (sym (ap name_in a.output.held) ∙ (same_word_is _ _ y ∙ ap name_in b.output.held))

  reset_named : (n : ℕ) (l : FlatLatch) (init : ℕ) (w : List ℕ) → some_names w (reset_said net.nets n l init) ≡ (nat_lt init 2 && same_word w (latch_name l))
  reset_named n l init w = by (nat_lt init 2)
    where
      same : (s : Bool) → ((s || false) || false) ≡ s
      same true = refl
      same false = refl

      by : (t : Bool) → some_names w (if t then constant_reset n (latch_name l) init ∷ [] else []) ≡ (t && same_word w (latch_name l))
      by true = same (same_word w (latch_name l))
      by false = refl

  -- a latch that isn't among these has none of their names
  absent : (n : ℕ) (ls : List FlatLatch) (bs : List BlifLatch) (l : FlatLatch) → IsLatch net.nets l → AllLatches net.nets ls → has_id (latch_outputs ls) l.output.0 ≡ false → some_names (latch_name l) (resets_said net.nets n ls bs) ≡ false
  absent n [] bs l is all none = refl
  absent n (m ∷ ls) [] l is all none = refl
  absent n (m ∷ ls) (b ∷ bs) l is all none =
      let parts = or_parts (nat_eq m.output.0 l.output.0) (has_id (latch_outputs ls) l.output.0) none in
      let differs : same_word (latch_name l) (latch_name m) ≡ false = false_from_ne_true _ (λ y. false≢true (sym parts.0 ∙ eq-eqb m.output.0 l.output.0 (sym (one_latch l m is all.0 y)))) in
      list_any-append (λ (t : FileTable). among (latch_name l) t.outputs) (reset_said net.nets n m b.init) (resets_said net.nets (n + 1) ls bs)
      ∙ or_from _ _ (reset_named n m b.init (latch_name l) ∙ and_right (nat_lt b.init 2) _ differs) (absent (n + 1) ls bs l is all.1 parts.1)

  -- a latch among them has a reset table where it has a reset net
  present : (n : ℕ) (ls : List FlatLatch) (bs : List BlifLatch) (k : ℕ) (l : FlatLatch) → AllLatches net.nets ls → AreSaid net ls bs → all_differ (latch_outputs ls) ≡ true → slice_get ls k ≡ Some l
      → some_names (latch_name l) (resets_said net.nets n ls bs) ≡ has_reset l.reset
  present n [] bs k l all said once e = cc
  present n (m ∷ ls) [] k l all said once e = absurd said
  present n (m ∷ ls) (b ∷ bs) zero l all said once e =
      let both = and_parts (not (has_id (latch_outputs ls) m.output.0)) (all_differ (latch_outputs ls)) once in
      let t = nat_lt b.init 2 in
      let here : some_names (latch_name m) (resets_said net.nets n (m ∷ ls) (b ∷ bs)) ≡ has_reset m.reset
      = list_any-append (λ (u : FileTable). among (latch_name m) u.outputs) (reset_said net.nets n m b.init) (resets_said net.nets (n + 1) ls bs)
      ∙ (ap (λ x. x || some_names (latch_name m) (resets_said net.nets (n + 1) ls bs)) (reset_named n m b.init (latch_name m))
      ∙ (ap (λ x. (t && same_word (latch_name m) (latch_name m)) || x) (absent (n + 1) ls bs m all.0 all.1 (not-true _ both.0))
      ∙ (ap (λ x. (t && x) || false) (same_word_refl (latch_name m)) ∙ (alone t ∙ sym said.0.reset)))) in
      subst (λ (x : FlatLatch). some_names (latch_name x) (resets_said net.nets n (m ∷ ls) (b ∷ bs)) ≡ has_reset x.reset) (same_Some m l e) here
    where
      alone : (t : Bool) → ((t && true) || false) ≡ t
      alone true = refl
      alone false = refl
  present n (m ∷ ls) (b ∷ bs) (suc k) l all said once e =
      let both = and_parts (not (has_id (latch_outputs ls) m.output.0)) (all_differ (latch_outputs ls)) once in
      let is = latch_at net ls k l all.1 e in
      let differs : same_word (latch_name l) (latch_name m) ≡ false
      = false_from_ne_true _
      (λ y.
      let same : l.output.0 ≡ m.output.0 = one_latch l m is all.0 y in
      false≢true (sym (not-true _ both.0) ∙ (ap (has_id (latch_outputs ls)) (sym same) ∙ stands_at ls k l e))) in
      list_any-append (λ (u : FileTable). among (latch_name l) u.outputs) (reset_said net.nets n m b.init) (resets_said net.nets (n + 1) ls bs)
      ∙ (ap (λ x. x || some_names (latch_name l) (resets_said net.nets (n + 1) ls bs)) (reset_named n m b.init (latch_name l) ∙ and_right (nat_lt b.init 2) _ differs)
      ∙ present (n + 1) ls bs k l all.1 said.1 both.1 e)

  -- ---- latches

  latches_same : (m : FileModel) (n : ℕ) (ls : List FlatLatch) → m.decls ≡ [] → ((k : ℕ) (l : FlatLatch) → slice_get ls k ≡ Some l → spelled_in (slot net.nets l.output.0) ≡ two_values)
      → ((k : ℕ) (l : FlatLatch) → slice_get ls k ≡ Some l → some_names (latch_name l) m.resets ≡ has_reset l.reset) → map (latch_port m) (latches_said net.nets n ls) ≡ map (latch_port_of net.nets) ls
  latches_same m n [] bare plain resets = refl
  latches_same m n (l ∷ ls) bare plain resets =
      let name = latch_name l in
      let values : values_of m.decls name ≡ spelled_in (slot net.nets l.output.0) = ap (λ ds. values_of ds name) bare ∙ sym (plain zero l refl) in
      let rest = map (latch_port m) (latches_said net.nets (n + 1) ls) in
      ap (λ vs. record { name = name; values = vs; has_reset = some_names name m.resets } ∷ rest) values
      ∙ (ap (λ r. record { name = name; values = spelled_in (slot net.nets l.output.0); has_reset = r } ∷ rest) (resets zero l refl)
      ∙ ap (λ ps. latch_port_of net.nets l ∷ ps) (latches_same m (n + 1) ls bare (λ k x h. plain (suc k) x h) (λ k x h. resets (suc k) x h)))

  -- the model is seen as the network is
  pub same-interface : (bs : List BlifLatch) → IsBinary net → AreSaid net net.latches bs → (of_model (model_said net bs)).interface ≡ interface_of net
  unfolding of_model model_said interface_of
  same-interface bs binary said =
      let m = model_said net bs in
      let inputs = ports_same net m net.inputs refl binary.inputs.each in
      let outputs = ports_same net m net.outputs refl binary.outputs.each in
      let latches = latches_same m 4 net.latches refl (λ k l h. binary.latches.each l.output (stands_at net.latches k l h)) (λ k l h. present 4 net.latches bs k l formed.latches said formed.states.once h) in
      ap (λ i. record { inputs = i; outputs = map (port m) m.outputs; latches = map (latch_port m) m.latches }) inputs
      ∙ (ap (λ o. record { inputs = map (port_of net.nets) net.inputs; outputs = o; latches = map (latch_port m) m.latches }) outputs
      ∙ ap (λ l. record { inputs = map (port_of net.nets) net.inputs; outputs = map (port_of net.nets) net.outputs; latches = l }) latches)
