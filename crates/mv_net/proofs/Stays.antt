-- What stays well formed where some nets change, and where one goes that nothing reads or names.
use Rattle.std.proofs.Common.{◌≡◌, ◌∙◌, ℕ, true, false, nat_eq, List, [], ◌∷◌, Option, Some, None, refl, sym, ap, subst, eq-eqb}
use Rattle.std.proofs.lemmas.Bool.{or_left, or_right, or_parts, eqb-false}
use Rattle.mv_base.specs.Set.{full}
use Rattle.mv_base.specs.declared.number.NetId.{NetId}
use Rattle.mv_cover.specs.declared.cover.Cover.{Cover}
use Rattle.mv_cover.specs.Literal.{Lit}
use Rattle.mv_cover.specs.declared.line.Line.{Line}
use Rattle.mv_cover.specs.Covers.{cube_reads, lines_read, cover_reads}
use Rattle.mv_cover.specs.Lines.{IsOutput}
use Rattle.mv_net.specs.declared.parts.Kind.{Kind}
use Rattle.mv_net.specs.declared.parts.Kind.TheVariants.{Input, Latch, Reset}
use Rattle.mv_net.specs.declared.parts.FlatNet.{FlatNet}
use Rattle.mv_net.specs.declared.parts.FlatLatch.{FlatLatch}
use Rattle.mv_net.specs.declared.parts.NetParts.{NetParts}
use Rattle.mv_net.specs.Nets.{slot, values_in, net_reads, reads_in, table_reads}
use Rattle.mv_net.specs.Formed.{IsKind, IsReadable, IsLiteral, AllLiterals, AllLines, IsCover, IsNet, IsResetNet, IsLatch, AllLatches, latch_outputs, latch_resets, with_reset, AreKind, WellFormed}
use Rattle.mv_net.specs.Changes.{with_nets}
use Rattle.mv_graph.specs.Nets.{has_id}
use Rattle.mv_graph.proofs.Paths.{above_mapped, acyclic_mapped}
use Rattle.mv_net.specs.Index.{is_latch_input}
use Rattle.mv_net.proofs.Patches.{IsWritten, other_than}
use Rattle.mv_net.proofs.Ports.{is_latch_output, is_reset_net, is_port, IsHidden-from, outputs_listed}

-- ---- a table whose fanins stay

-- the net at a number stays as its readers need it
pub record KeepsNet (old new : List (Option FlatNet)) (n : ℕ) : Type 0 where
  pub readable : IsReadable old n → IsReadable new n
  pub values : values_in (slot new n) ≡ values_in (slot old n)

pub KeepsNet-same : (old new : List (Option FlatNet)) (n : ℕ) → slot new n ≡ slot old n → KeepsNet old new n
KeepsNet-same old new n same = record {
  readable = λ r. record { net = r.net; held = same ∙ r.held; plain = r.plain };
  values = ap values_in same;
}

literal-kept : (old new : List (Option FlatNet)) (l : Lit) → KeepsNet old new l.net.0 → IsLiteral old l → IsLiteral new l
literal-kept old new l keeps is = record {
  readable = keeps.readable is.readable;
  set = subst (λ k. IsOutput k l.set) (sym keeps.values) is.set;
  not_full = λ full_set. is.not_full (full_set ∙ ap full keeps.values);
}

literals-kept : (old new : List (Option FlatNet)) (cube : List Lit) → ((n : ℕ) → cube_reads cube n ≡ true → KeepsNet old new n) → AllLiterals old cube → AllLiterals new cube
literals-kept old new [] keeps all = tt
literals-kept old new (l ∷ ls) keeps all = (
  literal-kept old new l (keeps l.net.0 (or_left (nat_eq l.net.0 l.net.0) (cube_reads ls l.net.0) (eq-eqb l.net.0 l.net.0 refl))) all.0,
  literals-kept old new ls (λ n r. keeps n (or_right (nat_eq l.net.0 n) (cube_reads ls n) r)) all.1,
)

lines-kept : (old new : List (Option FlatNet)) (values : ℕ) (ls : List Line) → ((n : ℕ) → lines_read ls n ≡ true → KeepsNet old new n) → AllLines old values ls → AllLines new values ls
lines-kept old new values [] keeps all = tt
lines-kept old new values (l ∷ ls) keeps all = (
  literals-kept old new l.cube (λ n r. keeps n (or_left (cube_reads l.cube n) (lines_read ls n) r)) all.0,
  all.1,
  lines-kept old new values ls (λ n r. keeps n (or_right (cube_reads l.cube n) (lines_read ls n) r)) all.2,
)

pub IsCover-kept : (old new : List (Option FlatNet)) (values : ℕ) (c : Cover) → ((n : ℕ) → cover_reads c n ≡ true → KeepsNet old new n) → IsCover old values c → IsCover new values c
IsCover-kept old new values c keeps is = record {
  cubes = is.cubes;
  lines = lines-kept old new values c.lines keeps is.lines;
  differ = is.differ;
  default = is.default;
  met = is.met;
}

pub IsNet-kept : (old new : List (Option FlatNet)) (f : FlatNet) → ((n : ℕ) → table_reads f.table n ≡ true → KeepsNet old new n) → IsNet old f → IsNet new f
IsNet-kept old new f keeps is = record {
  some = is.some;
  few = is.few;
  named = is.named;
  name = is.name;
  table = is.table;
  cover = λ c e. IsCover-kept old new f.values c (λ n r. keeps n (ap (λ t. table_reads t n) e ∙ r)) (is.cover c e);
}

-- ---- one net gone

-- nothing reads the net, and it is no port
pub record IsLoose (net : NetParts) (n : ℕ) : Type 0 where
  pub unread : (m : ℕ) → net_reads (slot net.nets m) n ≡ false
  pub hidden : is_port net n ≡ false

-- a net that is no reset net of a latch and those behind it is none of those behind it, and isn't the latch's own
reset_rest : (reset : Option NetId) (ns : List NetId) (n : ℕ) → has_id (with_reset reset ns) n ≡ false → has_id ns n ≡ false
reset_rest None ns n h = h
reset_rest (Some m) ns n h = (or_parts (nat_eq m.0 n) (has_id ns n) h).1

reset_other : (reset : Option NetId) (ns : List NetId) (n : ℕ) (m : NetId) → has_id (with_reset reset ns) n ≡ false → reset ≡ Some m → m.0 ≡ n → ⊥
reset_other reset ns n m h e =
    let out : has_id (with_reset (Some m) ns) n ≡ false = ap (λ o. has_id (with_reset o ns) n) (sym e) ∙ h in
    eqb-false m.0 n (or_parts (nat_eq m.0 n) (has_id ns n) out).0

module _ (old : List (Option FlatNet)) (n : ℕ) (new : List (Option FlatNet)) (gone : IsWritten old n None new) where
  -- what is held is another net, was held, and reads what it read
  pub held_other : (m : ℕ) (f : FlatNet) → slot new m ≡ Some f → m ≡ n → ⊥
  held_other m f e same = let bad : None ≡ Some f = sym gone.here ∙ (ap (slot new) (sym same) ∙ e) in cc

  pub held_before : (m : ℕ) (f : FlatNet) → slot new m ≡ Some f → slot old m ≡ Some f
  held_before m f e = sym (gone.others m (held_other m f e)) ∙ e

  pub read_before : (m k : ℕ) → net_reads (slot new m) k ≡ true → net_reads (slot old m) k ≡ true
  read_before m k r = ap (λ f. net_reads f k) (sym (gone.others m (other_than (λ j. net_reads (slot new j) k) n m (ap (λ f. net_reads f k) gone.here) r))) ∙ r

  -- each other net is of the kind that it was
  kind_before : (m : ℕ) (kind : Kind) → IsKind new m kind → IsKind old m kind
  kind_before m kind k = record { net = k.net; held = held_before m k.net k.held; is = k.is }

  kind_stays : (m : ℕ) (kind : Kind) → (m ≡ n → ⊥) → IsKind old m kind → IsKind new m kind
  kind_stays m kind ne k = record { net = k.net; held = gone.others m ne ∙ k.held; is = k.is }

  keeps_other : (m : ℕ) → (m ≡ n → ⊥) → KeepsNet old new m
  keeps_other m ne = KeepsNet-same old new m (gone.others m ne)

  kinds_stay : (kind : Kind) (list : List NetId) → has_id list n ≡ false → AreKind old kind list → AreKind new kind list
  kinds_stay kind list out are = record {
    all = λ m k. are.all m (kind_before m.0 kind k);
    only = λ m h. kind_stays m.0 kind (other_than (has_id list) n m.0 out h) (are.only m h);
    once = are.once;
  }

  -- latches of other nets stay
  reset_stays : (output m : ℕ) → (output ≡ n → ⊥) → (m ≡ n → ⊥) → IsResetNet old output m → IsResetNet new output m
  unfolding kind_stays
  reset_stays output m out ne is = record {
    kind = kind_stays m Reset ne is.kind;
    latch = is.latch;
    held = gone.others output out ∙ is.held;
    name = is.name;
    values = is.values;
    value_names = is.value_names;
  }

  latch_stays : (l : FlatLatch) (resets : List NetId) → (l.input.0 ≡ n → ⊥) → (l.output.0 ≡ n → ⊥) → has_id (with_reset l.reset resets) n ≡ false → IsLatch old l → IsLatch new l
  latch_stays l resets input output reset is = record {
    input = (keeps_other l.input.0 input).readable is.input;
    output = kind_stays l.output.0 Latch output is.output;
    values = (keeps_other l.input.0 input).values ∙ (is.values ∙ sym (keeps_other l.output.0 output).values);
    reset = λ m e. reset_stays l.output.0 m.0 output (reset_other l.reset resets n m reset e) (is.reset m e);
  }

  latches_stay : (ls : List FlatLatch) → is_latch_input ls n ≡ false → is_latch_output ls n ≡ false → is_reset_net ls n ≡ false → AllLatches old ls → AllLatches new ls
  latches_stay [] input output reset all = tt
  latches_stay (l ∷ ls) input output reset all =
      let i = or_parts (nat_eq l.input.0 n) (is_latch_input ls n) input in
      let o = or_parts (nat_eq l.output.0 n) (is_latch_output ls n) output in (
        latch_stays l (latch_resets ls) (eqb-false l.input.0 n i.0) (eqb-false l.output.0 n o.0) reset all.0,
        latches_stay ls i.1 o.1 (reset_rest l.reset (latch_resets ls) n reset) all.1,
      )

-- a network without a net that nothing reads or names is well formed
pub gone_formed : (net : NetParts) (n : ℕ) (nets : List (Option FlatNet)) → WellFormed net → IsLoose net n → IsWritten net.nets n None nets → WellFormed (with_nets net nets)
unfolding with_nets
gone_formed net n nets formed loose gone = let hidden = IsHidden-from net n loose.hidden in record {
  root = formed.root;
  nets = λ m f e. let held = held_before net.nets n nets gone m f e in
      IsNet-kept net.nets nets f (λ k r. keeps_other net.nets n nets gone k (other_than (λ j. table_reads f.table j) n k (ap (λ g. net_reads g n) (sym held) ∙ loose.unread m) r)) (formed.nets m f held);
  names = λ m k f g e h same. formed.names m k f g (held_before net.nets n nets gone m f e) (held_before net.nets n nets gone k g h) same;
  inputs = kinds_stay net.nets n nets gone Input net.inputs hidden.input formed.inputs;
  outputs = λ m h. (keeps_other net.nets n nets gone m.0 (other_than (has_id net.outputs) n m.0 hidden.output h)).readable (formed.outputs m h);
  outputs_once = formed.outputs_once;
  latches = latches_stay net.nets n nets gone net.latches hidden.next hidden.state hidden.reset formed.latches;
  states = kinds_stay net.nets n nets gone Latch (latch_outputs net.latches) (outputs_listed net.latches n ∙ hidden.state) formed.states;
  resets = kinds_stay net.nets n nets gone Reset (latch_resets net.latches) hidden.reset formed.resets;
  acyclic = acyclic_mapped (reads_in nets) (reads_in net.nets) (λ m. m) (read_before net.nets n nets gone) formed.acyclic;
  alone = record {
    none = λ m k latch reset above.
        formed.alone.none m k (kind_before net.nets n nets gone m Latch latch) (kind_before net.nets n nets gone k Reset reset)
        (above_mapped (reads_in nets) (reads_in net.nets) (λ j. j) (read_before net.nets n nets gone) m k above);
  };
}
