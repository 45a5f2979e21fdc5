-- From an assignment that the network with its written tables allows to values by name that the model allows: a name has the value
-- of the net with this name.
use Rattle.std.proofs.Common.{◌≡◌, ◌∙◌, ℕ, ◌+◌, ◌<◌, zero, suc, Bool, true, false, not, ◌&&◌, ◌||◌, ◌==◌, List, [], ◌∷◌, Option, Some, None, is_some, refl, sym, ap, subst, arith}
use Rattle.std.specs.Prelude.{nat_lt, slice_get}
use Rattle.std.specs.Option.{option_map}
use Rattle.std.proofs.lemmas.Bool.{cond-true, cond-false, and_parts, and_from, eq-eqb, ltb-true, lt-ltb, false≢true}
use Rattle.mv_acyclic.proofs.Names.{all_from_among}
use Rattle.mv_base.specs.declared.number.NetId.{NetId}
use Rattle.mv_chosen.specs.Binary.{binary_choice}
use Rattle.mv_chosen.specs.Written.{constant, first_value, written_table, written_net, written_nets}
use Rattle.mv_cover.specs.declared.cover.Cover.{Cover}
use Rattle.mv_cover.specs.Covers.{allowed}
use Rattle.mv_design.specs.declared.design.FileLatch.{FileLatch}
use Rattle.mv_design.specs.declared.design.FileModel.{FileModel}
use Rattle.mv_design.specs.Meaning.{in_values, may_begin, may_begin_all, AllowsModel}
use Rattle.mv_design.specs.Nets.{nets_named}
use Rattle.mv_latch.specs.declared.latch.BlifLatch.{BlifLatch}
use Rattle.mv_net.specs.declared.parts.FlatLatch.{FlatLatch}
use Rattle.mv_net.specs.declared.parts.FlatNet.{FlatNet}
use Rattle.mv_net.specs.declared.parts.NetParts.{NetParts}
use Rattle.mv_net.specs.Allowed.{net_table_allows, net_allows, reset_gives, resets_give, Allows}
use Rattle.mv_net.specs.Changes.{with_nets}
use Rattle.mv_net.specs.Formed.{IsReadable, WellFormed, has_table}
use Rattle.mv_net.specs.Index.{is_reset}
use Rattle.mv_net.specs.Nets.{slot, name_in, values_in}
use Rattle.mv_net.proofs.Plainness.{one_same}
use Rattle.mv_blif_back.specs.Alike.{AreAlike, ChoicesHold}
use Rattle.mv_blif_back.specs.Model.{latches_said, model_said}
use Rattle.mv_blif_back.specs.Said.{AreSaid, IsBinary, inits}
use Rattle.mv_blif_back.proofs.Agreeing.{tables-hold, inputs-same, outputs-same, states-same, next-same}
use Rattle.mv_blif_back.proofs.Beginning.{latch-begins}
use Rattle.mv_blif_back.proofs.FirstValues.{said-at, first-value, two-output, begins-so}
use Rattle.mv_blif_back.proofs.Interfaces.{latch_at}
use Rattle.mv_blif_back.proofs.Named.{number_of, number-of, named-readable}
use Rattle.mv_blif_back.proofs.WrittenNets.{written-slot, written-values}

-- a constant allows no other value
constant_only : (u v : ℕ) (at : ℕ → ℕ) → allowed (constant u) at v ≡ true → v ≡ u
unfolding allowed
constant_only u v at h = one_same v u h

-- the given values of a latch: below 2, and its first value where it has one
may_have : (init v : ℕ) → nat_lt v 2 ≡ true → (nat_lt init 2 ≡ true → v ≡ init) → (nat_lt v 2 && (not (nat_lt init 2) || (v == init))) ≡ true
may_have init v low own = and_from (nat_lt v 2) _ low (by (nat_lt init 2) own)
  where
    by : (b : Bool) → (b ≡ true → v ≡ init) → (not b || (v == init)) ≡ true
    by true e = eq-eqb v init (e refl)
    by false e = refl

module _ (net : NetParts) (formed : WellFormed net) (binary : IsBinary net) (bs : List BlifLatch) (said : AreSaid net net.latches bs) (i s o n r : List ℕ) (a : Allows (with_nets net (written_nets net (inits bs))) i s o n r) where
  abbrev model : FileModel
  model = model_said net bs

  abbrev name : ℕ → List ℕ
  name k = name_in (slot net.nets k)

  -- the nets with their written tables
  abbrev nets : List (Option FlatNet)
  nets = written_nets net (inits bs)

  abbrev value : List ℕ → ℕ
  value w = a.at (number_of w net.nets)

  value_is : (k : ℕ) → IsReadable net.nets k → value (name k) ≡ a.at k
  value_is k is = ap a.at (number-of net formed k is)

  -- ---- what the assignment agrees with

  net_agrees : (k : ℕ) (f : FlatNet) → slot net.nets k ≡ Some f → net_allows (written_net net.latches (inits bs) k (Some f)) a.at (a.at k) ≡ true
  unfolding with_nets
  net_agrees k f held =
      ap (λ g. net_allows (written_net net.latches (inits bs) k g) a.at (a.at k)) (sym held) ∙ (ap (λ g. net_allows g a.at (a.at k)) (sym (written-slot net (inits bs) k)) ∙ a.agrees.each k)

  low_value : (k : ℕ) (f : FlatNet) → slot net.nets k ≡ Some f → nat_lt (a.at k) 2 ≡ true
  low_value k f held =
      let below : a.at k < f.values = ltb-true (a.at k) f.values (and_parts (nat_lt (a.at k) f.values) _ (net_agrees k f held)).0 in
      let few = binary.few k in
      let same : values_in (slot net.nets k) ≡ f.values = ap values_in held in
      lt-ltb (a.at k) 2 (omega (arith, below, few, same))

  table_agrees : (k : ℕ) (f : FlatNet) (t : Option Cover) → slot net.nets k ≡ Some f → written_table net.latches (inits bs) k f ≡ t → net_table_allows t a.at (a.at k) ≡ true
  table_agrees k f t held e = ap (λ x. net_table_allows x a.at (a.at k)) (sym e) ∙ (and_parts (nat_lt (a.at k) f.values) _ (net_agrees k f held)).1

  alike : AreAlike net value a.at
  alike = record { same = value_is; low = λ k is. low_value k is.net is.held }

  choices : ChoicesHold net value a.at
  choices k f c held table other =
      let written : written_table net.latches (inits bs) k f ≡ Some (binary_choice c) = cond-false (is_reset (Some f.kind)) _ _ other ∙ ap (option_map binary_choice) table in
      let is : IsReadable net.nets k = record { net = f; held = held; plain = λ e. false≢true (sym other ∙ ap (λ x. is_reset (Some x)) e) } in
      let own : value f.name ≡ a.at k = ap (λ g. value (name_in g)) (sym held) ∙ value_is k is in
      ap (allowed (binary_choice c) a.at) own ∙ table_agrees k f (Some (binary_choice c)) held written

  -- a reset net has the value that its latch begins with
  reset_value : (k : ℕ) (f : FlatNet) (t : Option Cover) → slot net.nets k ≡ Some f → f.table ≡ t → is_some t ≡ true → is_reset (Some f.kind) ≡ true → a.at k ≡ first_value net.latches (inits bs) k
  reset_value k f None held e some y = absurd (false≢true some)
  reset_value k f (Some c) held e some y =
      let first = first_value net.latches (inits bs) k in
      let written : written_table net.latches (inits bs) k f ≡ Some (constant first) = cond-true (is_reset (Some f.kind)) _ _ y ∙ ap (option_map (λ (d : Cover). constant first)) e in
      constant_only first (a.at k) a.at (table_agrees k f (Some (constant first)) held written)

  -- ---- the model

  in_range : in_values model.decls value (nets_named model) ≡ true
  unfolding model_said
  in_range =
      all_from_among (λ w. nat_lt (value w) 2) (nets_named model)
      (λ w h.
      let is = named-readable net formed bs w h in
      ap (λ u. nat_lt (value u) 2) (sym is.named) ∙ (ap (λ v. nat_lt v 2) (value_is is.number is.has) ∙ low_value is.number is.has.net is.has.held))

  -- a latch may begin with the value of its reset net
  abbrev Begins : List FlatLatch → List BlifLatch → Type 0
  Begins ls cs = (k : ℕ) (l : FlatLatch) (c : BlifLatch) (h : FileLatch) (v : ℕ) → slice_get ls k ≡ Some l → slice_get cs k ≡ Some c → h.output ≡ name l.output.0
      → reset_gives nets a.at l.output l.reset v → may_begin model value h v ≡ true

  begun : Begins net.latches bs
  begun k l c h v there told named gives = latch-begins net formed value v bs k l c h named there told ∙ by l.reset refl
    where
      by : (p : Option NetId) → l.reset ≡ p → (nat_lt v 2 && (not (nat_lt c.init 2) || (v == c.init))) ≡ true
      by None e =
          let two : values_in (slot nets l.output.0) ≡ 2 = written-values net (inits bs) l.output.0 ∙ two-output net formed binary k l there in
          let below : v < values_in (slot nets l.output.0) = subst (λ (p : Option NetId). reset_gives nets a.at l.output p v) e gives in
          let free = begins-so net l c None (said-at net net.latches bs k l c said there told) e in
          may_have c.init v (lt-ltb v 2 (omega (arith, below, two))) (λ y. absurd (false≢true (sym free ∙ y)))
      by (Some m) e =
          let is = (latch_at net net.latches k l formed.latches there).reset m e in
          let at : v ≡ a.at m.0 = subst (λ (p : Option NetId). reset_gives nets a.at l.output p v) e gives in
          let tabled : is_some is.kind.net.table ≡ true = (formed.nets m.0 is.kind.net is.kind.held).table ∙ ap has_table is.kind.is in
          let first = reset_value m.0 is.kind.net is.kind.net.table is.kind.held refl tabled (ap (λ x. is_reset (Some x)) is.kind.is) in
          let value_of : v ≡ c.init = at ∙ (first ∙ first-value net.latches bs k l c m formed.resets.once there told e) in
          let starts = begins-so net l c (Some m) (said-at net net.latches bs k l c said there told) e in
          may_have c.init v (ap (λ x. nat_lt x 2) value_of ∙ starts) (λ y. value_of)

  begin_all : (line : ℕ) (ls : List FlatLatch) (cs : List BlifLatch) (vs : List ℕ) → AreSaid net ls cs → Begins ls cs → resets_give nets a.at ls vs → may_begin_all model value (latches_said net.nets line ls) vs ≡ true
  begin_all line [] cs [] told each all = refl
  begin_all line [] cs (v ∷ vs) told each all = absurd all
  begin_all line (l ∷ ls) [] vs told each all = absurd told
  begin_all line (l ∷ ls) (c ∷ cs) [] told each all = absurd all
  begin_all line (l ∷ ls) (c ∷ cs) (v ∷ vs) told each all =
      let h : FileLatch = record { line = line; input = name l.input.0; output = name l.output.0 } in
      and_from (may_begin model value h v) _ (each zero l c h v refl refl refl all.0)
      (begin_all (line + 1) ls cs vs told.1 (λ k m b g u there given named gives. each (suc k) m b g u there given named gives) all.1)

  begins : may_begin_all model value model.latches r ≡ true
  unfolding model_said with_nets
  begins = begin_all 4 net.latches bs r said begun a.resets

  pub valued : AllowsModel model i s o n r
  unfolding with_nets
  valued = record {
    value = value;
    range = in_range;
    tables = tables-hold net formed value a.at alike binary.few bs choices;
    inputs = inputs-same net formed value a.at alike bs ∙ a.inputs;
    states = states-same net formed value a.at alike bs ∙ a.states;
    outputs = outputs-same net formed value a.at alike bs ∙ a.outputs;
    next = next-same net formed value a.at alike bs ∙ a.next;
    resets = begins;
  }
