-- The reset table of a latch in a network's model is that of the latch's reset net, and there is none where it has none.
use Rattle.std.proofs.Common.{◌≡◌, ℕ, suc, zero, Bool, true, false, not, List, [], ◌∷◌, Option, Some, None, is_some, refl, sym, ◌∙◌, ap}
use Rattle.std.specs.List.{slice_get, list_any, list_all}
use Rattle.std.proofs.lemmas.Bool.{false≢true, false_from_ne_true, true_from_ne_false, and_parts, and_from, or_parts, or_left, not-true, not_from_false}
use Rattle.std.proofs.lemmas.Option.{same_Some}
use Rattle.mv_base.specs.declared.number.NetId.{NetId}
use Rattle.mv_base.proofs.NameLemmas.{same_word_refl}
use Rattle.mv_cover.specs.declared.cover.Cover.{Cover}
use Rattle.mv_design.specs.declared.table.FileTable.{FileTable}
use Rattle.mv_design.specs.declared.design.FileLatch.{FileLatch}
use Rattle.mv_design.specs.declared.design.FileModel.{FileModel}
use Rattle.mv_design.specs.Meaning.{is_reset_of, has_reset_table}
use Rattle.mv_net.specs.declared.parts.FlatNet.{FlatNet}
use Rattle.mv_net.specs.declared.parts.FlatLatch.{FlatLatch}
use Rattle.mv_net.specs.declared.parts.NetParts.{NetParts}
use Rattle.mv_net.specs.Nets.{slot, name_in, has_reset}
use Rattle.mv_net.specs.Formed.{has_table, latch_outputs, WellFormed}
use Rattle.mv_graph.specs.Nets.{all_differ, has_id}
use Rattle.mv_text.specs.Text.{told_name}
use Rattle.mv_text_back.proofs.TextModel.{is_reset_net, IsTableOf, IsLatchOf, IsModelOf}
use Rattle.mv_text_back.proofs.Resets.{latch-at, latch-driven, output-listed, latch-of, reset-of}
use Rattle.mv_text_back.proofs.Numbers.{same_number}
use Rattle.mv_text_back.proofs.ModelTables.{IsOfNet, all_of_nets, some_passes, table_at}
use Rattle.mv_text_back.proofs.Driven.{one_name}
use Rattle.mv_text_back.proofs.NamedNets.{output_is}

-- ---- latches with one output are one

other_output : (h : FlatLatch) (ls : List FlatLatch) (i : ℕ) (l : FlatLatch) → all_differ (latch_outputs (h ∷ ls)) ≡ true → slice_get ls i ≡ Some l
    → h.output.0 ≡ l.output.0 → ⊥
other_output h ls i l differ e same =
    let p = and_parts (not (has_id (latch_outputs ls) h.output.0)) (all_differ (latch_outputs ls)) differ in
    false≢true (sym (not-true _ p.0) ∙ (ap (has_id (latch_outputs ls)) same ∙ output-listed ls i l e))

pub one_latch : (ls : List FlatLatch) (i j : ℕ) (l k : FlatLatch) → all_differ (latch_outputs ls) ≡ true → slice_get ls i ≡ Some l → slice_get ls j ≡ Some k
    → l.output.0 ≡ k.output.0 → l ≡ k
one_latch [] i j l k differ e f same = cc
one_latch (h ∷ ls) zero zero l k differ e f same = sym (same_Some h l e) ∙ same_Some h k f
one_latch (h ∷ ls) zero (suc j) l k differ e f same =
    absurd (other_output h ls j k differ f (ap (λ (g : FlatLatch). g.output.0) (same_Some h l e) ∙ same))
one_latch (h ∷ ls) (suc i) zero l k differ e f same =
    absurd (other_output h ls i l differ e (ap (λ (g : FlatLatch). g.output.0) (same_Some h k f) ∙ sym same))
one_latch (h ∷ ls) (suc i) (suc j) l k differ e f same =
    one_latch ls i j l k ((and_parts (not (has_id (latch_outputs ls) h.output.0)) (all_differ (latch_outputs ls)) differ).1) e f same

-- where no element passes a test, each passes the other
none_pass : {X : Type 0} (p : X → Bool) (xs : List X) → list_any p xs ≡ false → list_all (λ x. not (p x)) xs ≡ true
none_pass p [] e = refl
none_pass p (x ∷ xs) e =
    let q = or_parts (p x) (list_any p xs) e in
    and_from (not (p x)) _ (not_from_false _ q.0) (none_pass p xs q.1)

-- ---- a latch of the network as one of its model

module _ (net : NetParts) (formed : WellFormed net) (i : ℕ) (l : FlatLatch) (listed : slice_get net.latches i ≡ Some l) (h : FileLatch) (is : IsLatchOf net.nets l h) where
  -- a reset table of the latch is that of its reset net
  pub own-reset : (t : FileTable) (o : IsOfNet net.nets is_reset_net t) → is_reset_of h t ≡ true → l.reset ≡ Some (record { 0 = o.number })
  own-reset t o e =
      let has = latch-of net formed o.number o.net o.held o.passes in
      let r = reset-of net formed has.place has.latch has.listed o.number has.reset o.net o.held in
      let name : name_in (slot net.nets l.output.0) ≡ name_in (slot net.nets has.latch.output.0) = sym is.output ∙ (output_is net.nets is_reset_net t o h.output e ∙ (r.told ∙ sym (ap name_in r.driven.held))) in
      let output = same_number net.nets (one_name net formed) l.output.0 has.latch.output.0 (latch-driven net formed i l listed) r.driven name in
      ap (λ (k : FlatLatch). k.reset) (one_latch net.latches i has.place l has.latch formed.states.once listed has.listed output) ∙ has.reset

  -- and the table of its reset net is such a table
  pub reset-told : (n : ℕ) → l.reset ≡ Some (record { 0 = n }) → (f : FlatNet) → slot net.nets n ≡ Some f → (c : Cover) (t : FileTable)
      → IsTableOf net.nets f c t → is_reset_of h t ≡ true
  reset-told n e f held c t table =
      let r = reset-of net formed i l listed n e f held in
      let same : h.output ≡ told_name (Some f) = is.output ∙ (ap name_in r.driven.held ∙ sym r.told) in
      rw (table.outputs, same) (or_left _ _ (same_word_refl (told_name (Some f))))

  -- it has one in the model exactly where it has a reset net
  pub has-same : (m : FileModel) → IsModelOf net m → has_reset_table m.resets h ≡ has_reset l.reset
  has-same m model = by l.reset refl
    where
      some_of : (t : Option Cover) → is_some t ≡ true → (c : Cover) × (t ≡ Some c)
      some_of None e = cc
      some_of (Some c) e = (c, refl)

      by : (o : Option NetId) → l.reset ≡ o → has_reset_table m.resets h ≡ has_reset o
      by None e =
          false_from_ne_true _ (λ y.
          let p = some_passes net.nets is_reset_net (is_reset_of h) m.resets (all_of_nets net.nets is_reset_net m.resets model.resets) y in
          let some = own-reset p.table p.of_net p.passes in
          let bad : None ≡ Some (record { 0 = p.of_net.number }) = sym e ∙ some in
          cc)
      by (Some n) e =
          let latch = latch-at net.nets net.latches i l formed.latches listed in
          let kind = (latch.reset n e).kind in
          let r = reset-of net formed i l listed n.0 e kind.net kind.held in
          let table = some_of kind.net.table ((formed.nets n.0 kind.net kind.held).table ∙ ap has_table kind.is) in
          true_from_ne_false _ (λ none.
          let found = table_at net.nets is_reset_net net.nets m.resets (λ t. not (is_reset_of h t)) n.0 kind.net table.0 model.resets (none_pass (is_reset_of h) m.resets none) kind.held r.reset table.1 in
          false≢true (sym (not-true _ found.passes) ∙ reset-told n.0 e kind.net kind.held table.0 found.table found.is))
