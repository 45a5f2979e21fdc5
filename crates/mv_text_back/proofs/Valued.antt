-- From an assignment of a network to a valuation of its model: a name has the value of the net with this name.
use Rattle.std.proofs.Common.{◌≡◌, ℕ, Bool, true, false, not, ◌||◌, List, [], ◌∷◌, map, Option, Some, None, refl, sym, ◌∙◌, ap, subst}
use Rattle.std.specs.Prelude.{nat_lt}
use Rattle.std.specs.List.{slice_get}
use Rattle.std.proofs.lemmas.Bool.{and_parts, and_from, lt-ltb, not-true}
use Rattle.mv_base.specs.Names.{among}
use Rattle.mv_base.specs.declared.number.NetId.{NetId}
use Rattle.mv_cover.specs.declared.cover.Cover.{Cover}
use Rattle.mv_cover.specs.Covers.{allowed}
use Rattle.mv_design.specs.declared.table.FileTable.{FileTable}
use Rattle.mv_design.specs.declared.design.FileLatch.{FileLatch}
use Rattle.mv_design.specs.declared.design.FileModel.{FileModel}
use Rattle.mv_design.specs.Values.{count_of}
use Rattle.mv_design.specs.Tables.{table_allows}
use Rattle.mv_design.specs.Nets.{nets_named}
use Rattle.mv_design.specs.Meaning.{table_holds, is_reset_of, lets_begin, may_begin, AllowsModel}
use Rattle.mv_acyclic.proofs.Names.{all_from_among}
use Rattle.mv_net.specs.declared.parts.FlatNet.{FlatNet}
use Rattle.mv_net.specs.declared.parts.FlatLatch.{FlatLatch}
use Rattle.mv_net.specs.declared.parts.NetParts.{NetParts}
use Rattle.mv_net.specs.Nets.{slot, name_in, values_in}
use Rattle.mv_net.specs.Formed.{IsReadable, WellFormed}
use Rattle.mv_net.specs.Allowed.{net_table_allows, net_allows, reset_gives, Allows}
use Rattle.mv_text.specs.Text.{told_name}
use Rattle.mv_text_back.proofs.TextModel.{fanin_names, is_reset_net, is_other_net, IsLatchOf, IsModelOf}
use Rattle.mv_text_back.proofs.Resets.{readable, latch-at, reset-of, net_told-other}
use Rattle.mv_text_back.proofs.Numbers.{number_named, number_named-readable}
use Rattle.mv_text_back.proofs.Ports.{all-readable, read-inputs}
use Rattle.mv_text_back.proofs.Latches.{inputs_named, outputs_named, inputs_readable, outputs_readable}
use Rattle.mv_text_back.proofs.CoverRows.{is_low}
use Rattle.mv_text_back.proofs.ModelTables.{IsOfNet, all_of_nets, each_passes}
use Rattle.mv_text_back.proofs.Driven.{one_name}
use Rattle.mv_text_back.proofs.NamedNets.{named_readable}
use Rattle.mv_text_back.proofs.OwnResets.{own-reset}
use Rattle.mv_text_back.proofs.BackPorts.{count_is, latch_count}
use Rattle.mv_text_back.proofs.TableMeaning.{says, table_allowed, table_says, AreAlike, values_named, values_latched, says_allowed}
use Rattle.mv_text_back.proofs.ResetValues.{begin-each}

module _ (net : NetParts) (formed : WellFormed net) (m : FileModel) (model : IsModelOf net m) (i s o n r : List ℕ) (a : Allows net i s o n r) where
  abbrev value : List ℕ → ℕ
  value w = a.at (number_named w net.nets)

  value_of : (k : ℕ) → IsReadable net.nets k → value (name_in (slot net.nets k)) ≡ a.at k
  value_of k is = ap a.at (number_named-readable net.nets (one_name net formed) k is)

  -- ---- what the assignment agrees with

  net_agrees : (k : ℕ) (f : FlatNet) → slot net.nets k ≡ Some f → net_allows (Some f) a.at (a.at k) ≡ true
  net_agrees k f held = ap (λ g. net_allows g a.at (a.at k)) (sym held) ∙ a.agrees.each k

  low_value : (k : ℕ) (f : FlatNet) → slot net.nets k ≡ Some f → nat_lt (a.at k) f.values ≡ true
  low_value k f held = (and_parts (nat_lt (a.at k) f.values) (net_table_allows f.table a.at (a.at k)) (net_agrees k f held)).0

  cover_agrees : (k : ℕ) (f : FlatNet) (c : Cover) → slot net.nets k ≡ Some f → f.table ≡ Some c → allowed c a.at (a.at k) ≡ true
  cover_agrees k f c held e =
      ap (λ t. net_table_allows t a.at (a.at k)) (sym e)
      ∙ (and_parts (nat_lt (a.at k) f.values) (net_table_allows f.table a.at (a.at k)) (net_agrees k f held)).1

  low : (k : ℕ) → IsReadable net.nets k → is_low net.nets a.at k ≡ true
  low k is = ap (λ g. nat_lt (a.at k) (values_in g)) is.held ∙ low_value k is.net is.held

  alike : AreAlike net value a.at
  alike = record { same = value_of; low = low }

  -- ---- names and tables

  in_range : (w : List ℕ) → among w (nets_named m) ≡ true → nat_lt (value w) (count_of m.decls w) ≡ true
  in_range w h =
      let is = named_readable net m formed model w h in
      let k = is.number in
      ap (λ u. nat_lt (value u) (count_of m.decls u)) is.is
      ∙ (ap (λ v. nat_lt v (count_of m.decls (name_in (slot net.nets k)))) (value_of k is.readable) ∙ (ap (nat_lt (a.at k)) (count_is net m formed model k is.readable) ∙ low k is.readable))

  table_given : (t : FileTable) → IsOfNet net.nets is_other_net t → table_holds value t ≡ true
  table_given t is =
      let k = is.number in
      let other = not-true _ is.passes in
      let own : value (told_name (Some is.net)) ≡ a.at k = ap value (net_told-other is.net other) ∙ (ap (λ g. value (name_in g)) (sym is.held) ∙ value_of k (readable net.nets k is.net is.held other)) in
      table_says net.nets is.net is.cover t value is.is
      ∙ (ap (says net.nets is.cover (map value (fanin_names net.nets is.cover))) own ∙ (says_allowed net formed value a.at alike k is.net is.cover is.held is.table (a.at k) ∙ cover_agrees k is.net is.cover is.held is.table))

  -- ---- reset values

  module _ (j : ℕ) (l : FlatLatch) (listed : slice_get net.latches j ≡ Some l) (h : FileLatch) (is : IsLatchOf net.nets l h) (v : ℕ) (gives : reset_gives net.nets a.at l.output l.reset v) where
    given : (p : Option NetId) → l.reset ≡ p → reset_gives net.nets a.at l.output p v
    given p e = subst (λ (q : Option NetId). reset_gives net.nets a.at l.output q v) e gives

    -- the reset value is one of the latch's
    first_low : nat_lt v (values_in (slot net.nets l.output.0)) ≡ true
    first_low = by l.reset refl
      where
        by : (p : Option NetId) → l.reset ≡ p → nat_lt v (values_in (slot net.nets l.output.0)) ≡ true
        by None e = lt-ltb v _ (given None e)
        by (Some k) e =
            let kind = ((latch-at net.nets net.latches j l formed.latches listed).reset k e).kind in
            let reset = reset-of net formed j l listed k.0 e kind.net kind.held in
            let values : values_in (slot net.nets l.output.0) ≡ kind.net.values = ap values_in reset.driven.held ∙ sym reset.values in
            ap (λ u. nat_lt u (values_in (slot net.nets l.output.0))) (given (Some k) e) ∙ (ap (nat_lt (a.at k.0)) values ∙ low_value k.0 kind.net kind.held)

    -- each reset table of the latch allows it
    lets : (t : FileTable) → IsOfNet net.nets is_reset_net t → lets_begin value h v t ≡ true
    lets t of_net = by (is_reset_of h t) refl
      where
        by : (b : Bool) → is_reset_of h t ≡ b → (not b || table_allows t.rows t.default (map value t.inputs) (v ∷ [])) ≡ true
        by false e = refl
        by true e =
            let k = of_net.number in
            let is_at : v ≡ a.at k = given (Some (record { 0 = k })) (own-reset net formed j l listed h is t of_net e) in
            table_allowed net.nets of_net.net of_net.cover t value (v ∷ []) of_net.is
            ∙ (says_allowed net formed value a.at alike k of_net.net of_net.cover of_net.held of_net.table v ∙ (ap (allowed of_net.cover a.at) is_at ∙ cover_agrees k of_net.net of_net.cover of_net.held of_net.table))

    begins : may_begin m value h v ≡ true
    begins =
        and_from (nat_lt v (count_of m.decls h.output)) _ (ap (nat_lt v) (latch_count net m formed model j l listed h is) ∙ first_low) (each_passes net.nets is_reset_net (lets_begin value h v) m.resets lets (all_of_nets net.nets is_reset_net m.resets model.resets))

  -- ---- the whole

  pub valued : AllowsModel m i s o n r
  valued = record {
    value = value;
    range = all_from_among (λ w. nat_lt (value w) (count_of m.decls w)) (nets_named m) in_range;
    tables = each_passes net.nets is_other_net (table_holds value) m.tables table_given (all_of_nets net.nets is_other_net m.tables model.tables);
    inputs = ap (map value) model.inputs
        ∙ (values_named net formed value a.at alike net.inputs (all-readable net formed net.inputs (read-inputs net formed)) ∙ a.inputs);
    states = ap (map value) (outputs_named net.nets net.latches m.latches model.latches)
        ∙ (values_latched net formed value a.at alike (λ l. l.output) net.latches (outputs_readable net.nets net.latches formed.latches) ∙ a.states);
    outputs = ap (map value) model.outputs
        ∙ (values_named net formed value a.at alike net.outputs (all-readable net formed net.outputs formed.outputs) ∙ a.outputs);
    next = ap (map value) (inputs_named net.nets net.latches m.latches model.latches)
        ∙ (values_latched net formed value a.at alike (λ l. l.input) net.latches (inputs_readable net.nets net.latches formed.latches) ∙ a.next);
    resets = begin-each net.nets m value a.at net.latches m.latches r model.latches a.resets begins;
  }
