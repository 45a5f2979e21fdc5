-- A net that is no port gets another table and another number of values: when the network is then well formed.
use Rattle.std.proofs.Common.{◌≡◌, ◌∙◌, ℕ, true, false, nat_eq, List, [], ◌∷◌, Option, Some, None, refl, sym, ap, subst, ⊎_elim}
use Rattle.std.proofs.lemmas.Bool.{cases_eq, or_parts, eqb-false}
use Rattle.mv_base.specs.declared.number.NetId.{NetId}
use Rattle.mv_cover.specs.declared.cover.Cover.{Cover}
use Rattle.mv_graph.specs.Nets.{has_id}
use Rattle.mv_graph.proofs.Paths.{above_mapped, acyclic_mapped}
use Rattle.mv_net.specs.declared.parts.Kind.{Kind}
use Rattle.mv_net.specs.declared.parts.Kind.TheVariants.{Input, Latch, Reset}
use Rattle.mv_net.specs.declared.parts.FlatNet.{FlatNet}
use Rattle.mv_net.specs.declared.parts.FlatLatch.{FlatLatch}
use Rattle.mv_net.specs.declared.parts.NetParts.{NetParts}
use Rattle.mv_net.specs.Changes.{with_nets}
use Rattle.mv_net.specs.Formed.{IsKind, IsReadable, IsCover, IsNet, IsResetNet, IsLatch, AllLatches, latch_outputs, latch_resets, with_reset, AreKind, WellFormed}
use Rattle.mv_net.specs.Index.{is_latch_input, kind_in}
use Rattle.mv_net.specs.Nets.{slot, values_in, name_in, table_reads, net_reads, reads_in}
use Rattle.mv_net.proofs.Patches.{IsWritten}
use Rattle.mv_net.proofs.Ports.{is_latch_output, is_reset_net, is_port, IsHidden-from}

-- ---- kinds

kind_of : (nets : List (Option FlatNet)) (k : ℕ) (kind : Kind) → kind_in (slot nets k) ≡ Some kind → IsKind nets k kind
kind_of nets k kind e = by_slot (slot nets k) refl e
  where
    by_slot : (o : Option FlatNet) → slot nets k ≡ o → kind_in o ≡ Some kind → IsKind nets k kind
    by_slot None held e = cc
    by_slot (Some f) held e = record { net = f; held = held; is = cc }

-- ---- a net that is no reset net of a latch and those behind it

reset_rest : (reset : Option NetId) (ns : List NetId) (n : ℕ) → has_id (with_reset reset ns) n ≡ false → has_id ns n ≡ false
reset_rest None ns n h = h
reset_rest (Some m) ns n h = (or_parts (nat_eq m.0 n) (has_id ns n) h).1

reset_other : (reset : Option NetId) (ns : List NetId) (n : ℕ) (m : NetId) → has_id (with_reset reset ns) n ≡ false → reset ≡ Some m → m.0 ≡ n → ⊥
reset_other reset ns n m h e =
    let out : has_id (with_reset (Some m) ns) n ≡ false = ap (λ o. has_id (with_reset o ns) n) (sym e) ∙ h in
    eqb-false m.0 n (or_parts (nat_eq m.0 n) (has_id ns n) out).0

-- ---- the net

module _ (old : List (Option FlatNet)) (n : ℕ) (f g : FlatNet) (new : List (Option FlatNet)) (held : slot old n ≡ Some f) (kind : g.kind ≡ f.kind) (name : g.name ≡ f.name) (written : IsWritten old n (Some g) new) where
  kind_same : (k : ℕ) → kind_in (slot new k) ≡ kind_in (slot old k)
  kind_same k =
      ⊎_elim
      (λ (e : k ≡ n).
      let P : ℕ → Type 0 = λ j. kind_in (slot new j) ≡ kind_in (slot old j) in
      subst P (sym e) (ap kind_in written.here ∙ (ap (λ c. Some c) kind ∙ sym (ap kind_in held))))
      (λ (ne : k ≡ n → ⊥). ap kind_in (written.others k ne))
      (cases_eq k n)

  name_same : (k : ℕ) → name_in (slot new k) ≡ name_in (slot old k)
  name_same k =
      ⊎_elim
      (λ (e : k ≡ n).
      let P : ℕ → Type 0 = λ j. name_in (slot new j) ≡ name_in (slot old j) in
      subst P (sym e) (ap name_in written.here ∙ (name ∙ sym (ap name_in held))))
      (λ (ne : k ≡ n → ⊥). ap name_in (written.others k ne))
      (cases_eq k n)

  kind_kept : (k : ℕ) (c : Kind) → IsKind old k c → IsKind new k c
  kind_kept k c is = kind_of new k c (kind_same k ∙ (ap kind_in is.held ∙ ap (λ d. Some d) is.is))

  kind_back : (k : ℕ) (c : Kind) → IsKind new k c → IsKind old k c
  kind_back k c is = kind_of old k c (sym (kind_same k) ∙ (ap kind_in is.held ∙ ap (λ d. Some d) is.is))

  readable_kept : (k : ℕ) → IsReadable old k → IsReadable new k
  readable_kept k r =
      let is = kind_kept k r.net.kind (record { net = r.net; held = r.held; is = refl }) in
      record { net = is.net; held = is.held; plain = λ e. r.plain (sym is.is ∙ e) }

  kinds_kept : (c : Kind) (list : List NetId) → AreKind old c list → AreKind new c list
  kinds_kept c list are = record {
    all = λ m is. are.all m (kind_back m.0 c is);
    only = λ m h. kind_kept m.0 c (are.only m h);
    once = are.once;
  }

  -- a net held now was held by the same name
  record WasHeld (k : ℕ) (h : FlatNet) : Type 0 where
    net : FlatNet
    held_then : slot old k ≡ Some net
    name_then : net.name ≡ h.name

  was_held : (k : ℕ) (h : FlatNet) → slot new k ≡ Some h → WasHeld k h
  was_held k h e =
      let is = kind_back k h.kind (record { net = h; held = e; is = refl }) in
      record { net = is.net; held_then = is.held; name_then = sym (ap name_in is.held) ∙ (sym (name_same k) ∙ ap name_in e) }

  -- ---- latches of other nets

  reset_kept : (output k : ℕ) → (output ≡ n → ⊥) → (k ≡ n → ⊥) → IsResetNet old output k → IsResetNet new output k
  reset_kept output k out ne is = record {
    kind = record { net = is.kind.net; held = written.others k ne ∙ is.kind.held; is = is.kind.is };
    latch = is.latch;
    held = written.others output out ∙ is.held;
    name = is.name;
    values = is.values;
    value_names = is.value_names;
  }

  latch_kept : (l : FlatLatch) (resets : List NetId) → (l.input.0 ≡ n → ⊥) → (l.output.0 ≡ n → ⊥) → has_id (with_reset l.reset resets) n ≡ false → IsLatch old l → IsLatch new l
  latch_kept l resets input output reset is = record {
    input = readable_kept l.input.0 is.input;
    output = kind_kept l.output.0 Latch is.output;
    values = ap values_in (written.others l.input.0 input) ∙ (is.values ∙ sym (ap values_in (written.others l.output.0 output)));
    reset = λ m e. reset_kept l.output.0 m.0 output (reset_other l.reset resets n m reset e) (is.reset m e);
  }

  latches_kept : (ls : List FlatLatch) → is_latch_input ls n ≡ false → is_latch_output ls n ≡ false → is_reset_net ls n ≡ false → AllLatches old ls → AllLatches new ls
  latches_kept [] input output reset all = tt
  latches_kept (l ∷ ls) input output reset all =
      let i = or_parts (nat_eq l.input.0 n) (is_latch_input ls n) input in
      let o = or_parts (nat_eq l.output.0 n) (is_latch_output ls n) output in (
        latch_kept l (latch_resets ls) (eqb-false l.input.0 n i.0) (eqb-false l.output.0 n o.0) reset all.0,
        latches_kept ls i.1 o.1 (reset_rest l.reset (latch_resets ls) n reset) all.1,
      )

  -- ---- what is read

  reads_before : ((b : ℕ) → table_reads g.table b ≡ true → table_reads f.table b ≡ true) → (a b : ℕ) → reads_in new a b ≡ true → reads_in old a b ≡ true
  reads_before reads a b h =
      ⊎_elim
      (λ (e : a ≡ n).
      let P : ℕ → Type 0 = λ j. reads_in new j b ≡ true → reads_in old j b ≡ true in
      subst P (sym e) (λ r. ap (λ o. net_reads o b) held ∙ reads b (sym (ap (λ o. net_reads o b) written.here) ∙ r)) h)
      (λ (ne : a ≡ n → ⊥). ap (λ o. net_reads o b) (sym (written.others a ne)) ∙ h)
      (cases_eq a n)

-- the network is well formed, where the net is by itself, the other tables are covers over the new nets, and the net reads no net
-- besides
pub recounted_formed : (net : NetParts) (n : ℕ) (f g : FlatNet) (new : List (Option FlatNet)) → WellFormed net → slot net.nets n ≡ Some f → is_port net n ≡ false → g.kind ≡ f.kind → g.name ≡ f.name
    → IsWritten net.nets n (Some g) new → IsNet new g
    → ((k : ℕ) (h : FlatNet) (c : Cover) → (k ≡ n → ⊥) → slot net.nets k ≡ Some h → h.table ≡ Some c → IsCover new h.values c)
    → ((b : ℕ) → table_reads g.table b ≡ true → table_reads f.table b ≡ true)
    → WellFormed (with_nets net new)
unfolding with_nets
recounted_formed net n f g new formed held port kind name written own covers reads =
    let hidden = IsHidden-from net n port in
    let before = reads_before net.nets n f g new held kind name written reads in
    record {
      root = formed.root;
      nets = one_net;
      names = λ a b h j e i same.
          let p = was_held net.nets n f g new held kind name written a h e in
          let q = was_held net.nets n f g new held kind name written b j i in
          formed.names a b p.net q.net p.held_then q.held_then (p.name_then ∙ (same ∙ sym q.name_then));
      inputs = kinds_kept net.nets n f g new held kind name written Input net.inputs formed.inputs;
      outputs = λ k h. readable_kept net.nets n f g new held kind name written k.0 (formed.outputs k h);
      outputs_once = formed.outputs_once;
      latches = latches_kept net.nets n f g new held kind name written net.latches hidden.next hidden.state hidden.reset formed.latches;
      states = kinds_kept net.nets n f g new held kind name written Latch (latch_outputs net.latches) formed.states;
      resets = kinds_kept net.nets n f g new held kind name written Reset (latch_resets net.latches) formed.resets;
      acyclic = acyclic_mapped (reads_in new) (reads_in net.nets) (λ k. k) before formed.acyclic;
      alone = record {
        none = λ a b latch reset above.
            formed.alone.none a b (kind_back net.nets n f g new held kind name written a Latch latch) (kind_back net.nets n f g new held kind name written b Reset reset)
            (above_mapped (reads_in new) (reads_in net.nets) (λ k. k) before a b above);
      };
    }
  where
    one_net : (k : ℕ) (h : FlatNet) → slot new k ≡ Some h → IsNet new h
    one_net k h e =
        ⊎_elim
        (λ (s : k ≡ n).
        let same : Some g ≡ Some h = sym written.here ∙ (ap (slot new) (sym s) ∙ e) in
        let is : g ≡ h = cc in
        subst (IsNet new) is own)
        (λ (ne : k ≡ n → ⊥).
        let was = sym (written.others k ne) ∙ e in
        let is = formed.nets k h was in
        record { some = is.some; few = is.few; named = is.named; name = is.name; table = is.table; cover = λ c t. covers k h c ne was t })
        (cases_eq k n)
