-- From values by name that the model allows to an assignment that the network with its written tables allows: a net that can be
-- read has the value of its name, and a reset net the one that its latch begins with.
use Rattle.std.proofs.Common.{◌≡◌, ◌∙◌, ℕ, ◌+◌, ◌<◌, zero, suc, Bool, true, false, not, ◌&&◌, ◌||◌, ◌==◌, List, [], ◌∷◌, Option, Some, None, is_some, ⊎_elim, refl, sym, ap}
use Rattle.std.specs.Prelude.{nat_lt, slice_get, if◌then◌else◌}
use Rattle.std.specs.Option.{option_map}
use Rattle.std.proofs.lemmas.Bool.{cases_Bool, cond-true, cond-false, and_parts, and_from, eqb-true, ltb-true, lt-ltb, false≢true}
use Rattle.mv_acyclic.proofs.Commands.{driver_is_net}
use Rattle.mv_acyclic.proofs.Named.{among-nets_of}
use Rattle.mv_acyclic.proofs.Names.{all_among}
use Rattle.mv_base.specs.Names.{among}
use Rattle.mv_base.specs.declared.number.NetId.{NetId}
use Rattle.mv_chosen.specs.Binary.{binary_choice}
use Rattle.mv_chosen.specs.Written.{constant, first_value, written_table, written_net, written_nets}
use Rattle.mv_cover.specs.declared.cover.Cover.{Cover}
use Rattle.mv_cover.specs.Covers.{allowed}
use Rattle.mv_design.specs.declared.design.FileLatch.{FileLatch}
use Rattle.mv_design.specs.declared.design.FileModel.{FileModel}
use Rattle.mv_design.specs.Meaning.{may_begin, may_begin_all, AllowsModel}
use Rattle.mv_design.specs.Nets.{nets_named}
use Rattle.mv_design.specs.Values.{count_of}
use Rattle.mv_latch.specs.declared.latch.BlifLatch.{BlifLatch}
use Rattle.mv_net.specs.declared.parts.Kind.{Kind}
use Rattle.mv_net.specs.declared.parts.Kind.TheVariants.{Input, Latch, Table, Reset}
use Rattle.mv_net.specs.declared.parts.FlatLatch.{FlatLatch}
use Rattle.mv_net.specs.declared.parts.FlatNet.{FlatNet}
use Rattle.mv_net.specs.declared.parts.NetParts.{NetParts}
use Rattle.mv_net.specs.Allowed.{net_table_allows, net_allows, Agrees, reset_gives, resets_give, Allows}
use Rattle.mv_net.specs.Changes.{with_nets}
use Rattle.mv_net.specs.Formed.{IsReadable, WellFormed, has_table}
use Rattle.mv_net.specs.Index.{kind_in, is_reset}
use Rattle.mv_net.specs.Nets.{slot, name_in, values_in}
use Rattle.mv_net.proofs.Plainness.{one_has}
use Rattle.mv_blif_back.specs.Alike.{AreAlike, ChoicesHold}
use Rattle.mv_blif_back.specs.Model.{latches_said, model_said}
use Rattle.mv_blif_back.specs.Said.{AreSaid, IsBinary, inits}
use Rattle.mv_blif_back.proofs.Agreeing.{tables-say, inputs-same, outputs-same, states-same, next-same}
use Rattle.mv_blif_back.proofs.Beginning.{latch-begins}
use Rattle.mv_blif_back.proofs.Driven.{readable-driven}
use Rattle.mv_blif_back.proofs.FirstValues.{said-at, first-value, HasReset, has-reset, two-output, two-reset, begins-so}
use Rattle.mv_blif_back.proofs.Interfaces.{latch_at}
use Rattle.mv_blif_back.proofs.Named.{readable-other, other-readable}
use Rattle.mv_blif_back.proofs.Values.{two-spelled, choice-low}
use Rattle.mv_blif_back.proofs.WrittenNets.{written-slot, written-values}

-- a constant allows its value
constant_allows : (v : ℕ) (at : ℕ → ℕ) → allowed (constant v) at v ≡ true
unfolding allowed
constant_allows v at = one_has v

reset_kind : (k : Kind) → is_reset (Some k) ≡ true → k ≡ Reset
reset_kind Input h = absurd (false≢true h)
reset_kind Latch h = absurd (false≢true h)
reset_kind Table h = absurd (false≢true h)
reset_kind Reset h = refl

-- a test passes, and where it does so does another
then_passes : (a b : Bool) → a ≡ true → (not a || b) ≡ true → b ≡ true
then_passes true b e h = h
then_passes false b e h = absurd (false≢true e)

module _ (net : NetParts) (formed : WellFormed net) (binary : IsBinary net) (bs : List BlifLatch) (said : AreSaid net net.latches bs) (i s o n r : List ℕ) (a : AllowsModel (model_said net bs) i s o n r) where
  abbrev model : FileModel
  model = model_said net bs

  abbrev name : ℕ → List ℕ
  name k = name_in (slot net.nets k)

  -- the nets with their written tables
  abbrev nets : List (Option FlatNet)
  nets = written_nets net (inits bs)

  abbrev first : ℕ → ℕ
  first k = first_value net.latches (inits bs) k

  abbrev at : ℕ → ℕ
  at k = if is_reset (kind_in (slot net.nets k)) then first k else a.value (name k)

  at_read : (k : ℕ) (f : FlatNet) → slot net.nets k ≡ Some f → is_reset (Some f.kind) ≡ false → at k ≡ a.value (name k)
  at_read k f held other = cond-false (is_reset (kind_in (slot net.nets k))) (first k) (a.value (name k)) (ap (λ g. is_reset (kind_in g)) held ∙ other)

  at_reset : (k : ℕ) (f : FlatNet) → slot net.nets k ≡ Some f → is_reset (Some f.kind) ≡ true → at k ≡ first k
  at_reset k f held y = cond-true (is_reset (kind_in (slot net.nets k))) (first k) (a.value (name k)) (ap (λ g. is_reset (kind_in g)) held ∙ y)

  at_name : (k : ℕ) → IsReadable net.nets k → at k ≡ a.value (name k)
  at_name k is = at_read k is.net is.held (readable-other net.nets k is)

  in_range : (w : List ℕ) → among w (nets_named model) ≡ true → nat_lt (a.value w) 2 ≡ true
  unfolding model_said
  in_range w h = all_among (λ u. nat_lt (a.value u) (count_of model.decls u)) (nets_named model) w a.range h

  low : (k : ℕ) → IsReadable net.nets k → nat_lt (at k) 2 ≡ true
  low k is =
      let named : among (name k) (nets_named model) ≡ true = sym (among-nets_of (name k) model) ∙ driver_is_net model (name k) (readable-driven net formed bs k is) in
      ap (λ v. nat_lt v 2) (at_name k is) ∙ in_range (name k) named

  alike : AreAlike net a.value at
  alike = record { same = λ k is. sym (at_name k is); low = low }

  choices : ChoicesHold net a.value at
  choices = tables-say net formed a.value at alike binary.few bs a.tables

  -- ---- nets that can be read

  chosen : (k : ℕ) (f : FlatNet) (c : Cover) → slot net.nets k ≡ Some f → f.table ≡ Some c → is_reset (Some f.kind) ≡ false → allowed (binary_choice c) at (at k) ≡ true
  chosen k f c held table other =
      let own : at k ≡ a.value f.name = at_read k f held other ∙ ap (λ g. a.value (name_in g)) held in
      ap (allowed (binary_choice c) at) own ∙ choices k f c held table other

  -- a net that is spelled by 0 and 1
  seen_low : (k : ℕ) (f : FlatNet) → slot net.nets k ≡ Some f → is_reset (Some f.kind) ≡ false → values_in (slot net.nets k) ≡ 2 → nat_lt (at k) f.values ≡ true
  seen_low k f held other two = ap (nat_lt (at k)) (sym (ap values_in held) ∙ two) ∙ low k (other-readable net.nets k f held other)

  tabled_low : (k : ℕ) (f : FlatNet) (t : Option Cover) → slot net.nets k ≡ Some f → f.table ≡ t → is_some t ≡ true → is_reset (Some f.kind) ≡ false → nat_lt (at k) f.values ≡ true
  tabled_low k f None held table some other = absurd (false≢true some)
  tabled_low k f (Some c) held table some other =
      let is = formed.nets k f held in
      let below : at k < 2 = ltb-true (at k) 2 (low k (other-readable net.nets k f held other)) in
      lt-ltb (at k) f.values (choice-low net.nets f.values c at (at k) (is.cover c table) is.some below (chosen k f c held table other))

  read_low : (k : ℕ) (f : FlatNet) (kind : Kind) → slot net.nets k ≡ Some f → f.kind ≡ kind → is_reset (Some f.kind) ≡ false → nat_lt (at k) f.values ≡ true
  read_low k f Input held e other =
      let m : NetId = record { 0 = k } in
      seen_low k f held other (two-spelled net k formed (binary.inputs.each m (formed.inputs.all m (record { net = f; held = held; is = e }))))
  read_low k f Latch held e other =
      let m : NetId = record { 0 = k } in
      seen_low k f held other (two-spelled net k formed (binary.latches.each m (formed.states.all m (record { net = f; held = held; is = e }))))
  read_low k f Table held e other = tabled_low k f f.table held refl ((formed.nets k f held).table ∙ ap has_table e) other
  read_low k f Reset held e other = absurd (false≢true (sym other ∙ ap (λ x. is_reset (Some x)) e))

  read_agrees : (k : ℕ) (f : FlatNet) → slot net.nets k ≡ Some f → is_reset (Some f.kind) ≡ false → net_allows (written_net net.latches (inits bs) k (Some f)) at (at k) ≡ true
  read_agrees k f held other =
      let table : written_table net.latches (inits bs) k f ≡ option_map binary_choice f.table = cond-false (is_reset (Some f.kind)) _ _ other in
      and_from (nat_lt (at k) f.values) _ (read_low k f f.kind held refl other) (ap (λ t. net_table_allows t at (at k)) table ∙ by f.table refl)
    where
      by : (t : Option Cover) → f.table ≡ t → net_table_allows (option_map binary_choice t) at (at k) ≡ true
      by None e = refl
      by (Some c) e = chosen k f c held e other

  -- ---- reset nets

  reset_of : (k : ℕ) (f : FlatNet) → slot net.nets k ≡ Some f → is_reset (Some f.kind) ≡ true → HasReset net.latches bs k
  reset_of k f held y = has-reset net net.latches bs k said (formed.resets.all (record { 0 = k }) (record { net = f; held = held; is = reset_kind f.kind y }))

  first_low : (k : ℕ) (f : FlatNet) → slot net.nets k ≡ Some f → is_reset (Some f.kind) ≡ true → nat_lt (first k) f.values ≡ true
  first_low k f held y =
      let has = reset_of k f held y in
      let m : NetId = record { 0 = k } in
      let value : first k ≡ has.said.init = first-value net.latches bs has.place has.latch has.said m formed.resets.once has.there has.given has.reset in
      let two : f.values ≡ 2 = sym (ap values_in held) ∙ two-reset net formed binary has.place has.latch m has.there has.reset in
      let begins = begins-so net has.latch has.said (Some m) (said-at net net.latches bs has.place has.latch has.said said has.there has.given) has.reset in
      ap (nat_lt (first k)) two ∙ (ap (λ v. nat_lt v 2) value ∙ begins)

  reset_agrees : (k : ℕ) (f : FlatNet) → slot net.nets k ≡ Some f → is_reset (Some f.kind) ≡ true → net_allows (written_net net.latches (inits bs) k (Some f)) at (at k) ≡ true
  reset_agrees k f held y =
      let table : written_table net.latches (inits bs) k f ≡ option_map (λ (c : Cover). constant (first k)) f.table = cond-true (is_reset (Some f.kind)) _ _ y in
      ap (net_allows (written_net net.latches (inits bs) k (Some f)) at) (at_reset k f held y)
      ∙ and_from (nat_lt (first k) f.values) _ (first_low k f held y) (ap (λ t. net_table_allows t at (first k)) table ∙ by f.table)
    where
      by : (t : Option Cover) → net_table_allows (option_map (λ (c : Cover). constant (first k)) t) at (first k) ≡ true
      by None = refl
      by (Some c) = constant_allows (first k) at

  agrees_at : (k : ℕ) (g : Option FlatNet) → slot net.nets k ≡ g → net_allows (written_net net.latches (inits bs) k g) at (at k) ≡ true
  agrees_at k None held = refl
  agrees_at k (Some f) held =
      ⊎_elim
      (λ (y : is_reset (Some f.kind) ≡ true). reset_agrees k f held y)
      (λ (other : is_reset (Some f.kind) ≡ false). read_agrees k f held other)
      (cases_Bool (is_reset (Some f.kind)))

  agrees : Agrees nets at
  agrees = record { each = λ k. ap (λ g. net_allows g at (at k)) (written-slot net (inits bs) k) ∙ agrees_at k (slot net.nets k) refl }

  -- ---- reset values

  -- a value that a latch may begin with is that of its reset net
  abbrev Gives : List FlatLatch → List BlifLatch → Type 0
  Gives ls cs = (k : ℕ) (l : FlatLatch) (c : BlifLatch) (h : FileLatch) (v : ℕ) → slice_get ls k ≡ Some l → slice_get cs k ≡ Some c → h.output ≡ name l.output.0
      → may_begin model a.value h v ≡ true → reset_gives nets at l.output l.reset v

  given : Gives net.latches bs
  given k l c h v there told named begins = by l.reset refl
    where
      may : (nat_lt v 2 && (not (nat_lt c.init 2) || (v == c.init))) ≡ true
      may = sym (latch-begins net formed a.value v bs k l c h named there told) ∙ begins

      by : (p : Option NetId) → l.reset ≡ p → reset_gives nets at l.output p v
      by None e =
          let two : values_in (slot nets l.output.0) ≡ 2 = written-values net (inits bs) l.output.0 ∙ two-output net formed binary k l there in
          ltb-true v (values_in (slot nets l.output.0)) (ap (nat_lt v) two ∙ (and_parts (nat_lt v 2) _ may).0)
      by (Some m) e =
          let is = (latch_at net net.latches k l formed.latches there).reset m e in
          let starts = begins-so net l c (Some m) (said-at net net.latches bs k l c said there told) e in
          let value : v ≡ c.init = eqb-true v c.init (then_passes (nat_lt c.init 2) (v == c.init) starts (and_parts (nat_lt v 2) _ may).1) in
          let own : at m.0 ≡ first m.0 = at_reset m.0 is.kind.net is.kind.held (ap (λ x. is_reset (Some x)) is.kind.is) in
          value ∙ sym (own ∙ first-value net.latches bs k l c m formed.resets.once there told e)

  give_all : (line : ℕ) (ls : List FlatLatch) (cs : List BlifLatch) (vs : List ℕ) → AreSaid net ls cs → Gives ls cs → may_begin_all model a.value (latches_said net.nets line ls) vs ≡ true → resets_give nets at ls vs
  give_all line [] cs [] told each all = tt
  give_all line [] cs (v ∷ vs) told each all = absurd (false≢true all)
  give_all line (l ∷ ls) [] vs told each all = absurd told
  give_all line (l ∷ ls) (c ∷ cs) [] told each all = absurd (false≢true all)
  give_all line (l ∷ ls) (c ∷ cs) (v ∷ vs) told each all =
      let h : FileLatch = record { line = line; input = name l.input.0; output = name l.output.0 } in
      let p = and_parts (may_begin model a.value h v) (may_begin_all model a.value (latches_said net.nets (line + 1) ls) vs) all in
      (each zero l c h v refl refl refl p.0, give_all (line + 1) ls cs vs told.1 (λ k m b g u there given named begins. each (suc k) m b g u there given named begins) p.1)

  gives : resets_give nets at net.latches r
  unfolding model_said
  gives = give_all 4 net.latches bs r said given a.resets

  pub assigned : Allows (with_nets net nets) i s o n r
  unfolding with_nets
  assigned = record {
    at = at;
    agrees = agrees;
    inputs = sym (inputs-same net formed a.value at alike bs) ∙ a.inputs;
    states = sym (states-same net formed a.value at alike bs) ∙ a.states;
    outputs = sym (outputs-same net formed a.value at alike bs) ∙ a.outputs;
    next = sym (next-same net formed a.value at alike bs) ∙ a.next;
    resets = gives;
  }
