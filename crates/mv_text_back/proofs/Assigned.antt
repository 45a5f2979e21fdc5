-- From a valuation of the model of a network to an assignment of the network: a reset net has the reset value of its latch, and
-- each other net the value that the valuation gives its name.
use Rattle.std.proofs.Common.{◌≡◌, ℕ, Bool, true, false, not, ◌||◌, List, [], ◌∷◌, map, Option, Some, None, refl, sym, ◌∙◌, ap, ⊎_elim}
use Rattle.std.specs.Prelude.{nat_lt}
use Rattle.std.specs.List.{list_all, slice_get}
use Rattle.std.proofs.lemmas.Bool.{cases_Bool, and_parts, and_from, ltb-true}
use Rattle.mv_base.specs.declared.number.NetId.{NetId}
use Rattle.mv_cover.specs.declared.cover.Cover.{Cover}
use Rattle.mv_cover.specs.Covers.{allowed}
use Rattle.mv_design.specs.declared.design.FileModel.{FileModel}
use Rattle.mv_design.specs.Values.{count_of}
use Rattle.mv_design.specs.Tables.{table_allows}
use Rattle.mv_design.specs.Nets.{nets_named}
use Rattle.mv_design.specs.Meaning.{table_holds, is_reset_of, lets_begin, AllowsModel}
use Rattle.mv_acyclic.proofs.Names.{all_among}
use Rattle.mv_acyclic.proofs.Named.{among-nets_of}
use Rattle.mv_acyclic.proofs.Commands.{driver_is_net}
use Rattle.mv_net.specs.declared.parts.FlatNet.{FlatNet}
use Rattle.mv_net.specs.declared.parts.FlatLatch.{FlatLatch}
use Rattle.mv_net.specs.declared.parts.NetParts.{NetParts}
use Rattle.mv_net.specs.Nets.{slot, name_in, values_in}
use Rattle.mv_net.specs.Formed.{IsReadable, WellFormed}
use Rattle.mv_net.specs.Allowed.{net_table_allows, net_allows, reset_gives, Allows}
use Rattle.mv_text.specs.Text.{told_name}
use Rattle.mv_text_back.proofs.TextModel.{is_reset_net, is_other_net, IsModelOf}
use Rattle.mv_text_back.proofs.Resets.{readable, latch-of, reset-of, net_told-other}
use Rattle.mv_text_back.proofs.Ports.{all-readable, read-inputs}
use Rattle.mv_text_back.proofs.Latches.{inputs_named, outputs_named, inputs_readable, outputs_readable}
use Rattle.mv_text_back.proofs.CoverRows.{is_low}
use Rattle.mv_text_back.proofs.ModelTables.{table_at}
use Rattle.mv_text_back.proofs.Driven.{readable_driver}
use Rattle.mv_text_back.proofs.OwnResets.{reset-told}
use Rattle.mv_text_back.proofs.BackPorts.{count_is, latch_count}
use Rattle.mv_text_back.proofs.TableMeaning.{table_allowed, table_says, AreAlike, values_named, values_latched, says_allowed}
use Rattle.mv_text_back.proofs.ResetValues.{reset_or, readable-value, reset-value, BeginsAt, begins-at, give-each}

-- one of two tests passes, and the first fails: the second passes
other_passes : (a b : Bool) → a ≡ true → (not a || b) ≡ true → b ≡ true
other_passes true b e h = h
other_passes false b e h = cc

module _ (net : NetParts) (formed : WellFormed net) (m : FileModel) (model : IsModelOf net m) (i s o n r : List ℕ) (a : AllowsModel m i s o n r) where
  abbrev at : ℕ → ℕ
  at k = reset_or net.latches r k (a.value (name_in (slot net.nets k)))

  at_name : (k : ℕ) → IsReadable net.nets k → at k ≡ a.value (name_in (slot net.nets k))
  at_name k is = readable-value net formed r k (a.value (name_in (slot net.nets k))) is

  low : (k : ℕ) → IsReadable net.nets k → is_low net.nets at k ≡ true
  low k is =
      let w = name_in (slot net.nets k) in
      let named = sym (among-nets_of w m) ∙ driver_is_net m w (readable_driver net m formed model k is) in
      let in_range = all_among (λ u. nat_lt (a.value u) (count_of m.decls u)) (nets_named m) w a.range named in
      ap (λ v. nat_lt v (values_in (slot net.nets k))) (at_name k is) ∙ (ap (λ c. nat_lt (a.value w) c) (sym (count_is net m formed model k is)) ∙ in_range)

  alike : AreAlike net a.value at
  alike = record { same = λ k is. sym (at_name k is); low = low }

  -- ---- nets that can be read

  read_agrees : (k : ℕ) (f : FlatNet) → slot net.nets k ≡ Some f → is_reset_net f ≡ false → net_allows (Some f) at (at k) ≡ true
  read_agrees k f held other =
      let is = readable net.nets k f held other in
      and_from (nat_lt (at k) f.values) _ (ap (λ g. nat_lt (at k) (values_in g)) (sym held) ∙ low k is) (by_table is f.table refl)
    where
      by_table : IsReadable net.nets k → (t : Option Cover) → f.table ≡ t → net_table_allows t at (at k) ≡ true
      by_table is None e = refl
      by_table is (Some c) e =
          let table = table_at net.nets is_other_net net.nets m.tables (table_holds a.value) k f c model.tables a.tables held (ap not other) e in
          let own : at k ≡ a.value (told_name (Some f)) = at_name k is ∙ (ap (λ g. a.value (name_in g)) held ∙ ap a.value (sym (net_told-other f other))) in
          ap (allowed c at) own
          ∙ (sym (says_allowed net formed a.value at alike k f c held e (a.value (told_name (Some f))))
          ∙ (sym (table_says net.nets f c table.table a.value table.is) ∙ table.passes))

  -- ---- reset nets

  -- the latch at a place, as one of the model, and the value with which it begins
  begun : (j : ℕ) (l : FlatLatch) → slice_get net.latches j ≡ Some l → BeginsAt net.nets m a.value r j l
  begun j l listed = begins-at net.nets m a.value net.latches m.latches r j l model.latches a.resets listed

  -- it is one of the latch's values
  first_low : (j : ℕ) (l : FlatLatch) → slice_get net.latches j ≡ Some l → (b : BeginsAt net.nets m a.value r j l)
      → nat_lt b.first (values_in (slot net.nets l.output.0)) ≡ true
  first_low j l listed b =
      ap (nat_lt b.first) (sym (latch_count net m formed model j l listed b.latch b.is))
      ∙ (and_parts (nat_lt b.first (count_of m.decls b.latch.output)) (list_all (lets_begin a.value b.latch b.first) m.resets) b.begins).0

  -- and its reset table allows it
  first_allowed : (j : ℕ) (l : FlatLatch) → slice_get net.latches j ≡ Some l → (b : BeginsAt net.nets m a.value r j l) (k : ℕ)
      → l.reset ≡ Some (record { 0 = k }) → (f : FlatNet) → slot net.nets k ≡ Some f → is_reset_net f ≡ true → (c : Cover) → f.table ≡ Some c
      → allowed c at b.first ≡ true
  first_allowed j l listed b k e f held y c t =
      let lets = (and_parts (nat_lt b.first (count_of m.decls b.latch.output)) (list_all (lets_begin a.value b.latch b.first) m.resets) b.begins).1 in
      let table = table_at net.nets is_reset_net net.nets m.resets (lets_begin a.value b.latch b.first) k f c model.resets lets held y t in
      let own = reset-told net formed j l listed b.latch b.is k e f held c table.table table.is in
      let reset = table.table in
      let fits = table_allows reset.rows reset.default (map a.value reset.inputs) (b.first ∷ []) in
      let allows = other_passes (is_reset_of b.latch reset) fits own table.passes in
      sym (says_allowed net formed a.value at alike k f c held t b.first)
      ∙ (sym (table_allowed net.nets f c table.table a.value (b.first ∷ []) table.is) ∙ allows)

  -- a reset net has that value
  at_reset : (j : ℕ) (l : FlatLatch) → slice_get net.latches j ≡ Some l → (b : BeginsAt net.nets m a.value r j l) (k : ℕ) → l.reset ≡ Some (record { 0 = k })
      → at k ≡ b.first
  at_reset j l listed b k e = reset-value net.latches r j l k b.first (a.value (name_in (slot net.nets k))) formed.resets.once listed e b.at

  reset_agrees : (k : ℕ) (f : FlatNet) → slot net.nets k ≡ Some f → is_reset_net f ≡ true → net_allows (Some f) at (at k) ≡ true
  reset_agrees k f held y =
      let has = latch-of net formed k f held y in
      let b = begun has.place has.latch has.listed in
      let is = reset-of net formed has.place has.latch has.listed k has.reset f held in
      let values : values_in (slot net.nets has.latch.output.0) ≡ f.values = ap values_in is.driven.held ∙ sym is.values in
      ap (net_allows (Some f) at) (at_reset has.place has.latch has.listed b k has.reset)
      ∙ and_from (nat_lt b.first f.values) _ (ap (nat_lt b.first) (sym values) ∙ first_low has.place has.latch has.listed b)
      (by_table has.place has.latch has.listed b has.reset f.table refl)
    where
      by_table : (j : ℕ) (l : FlatLatch) → slice_get net.latches j ≡ Some l → (b : BeginsAt net.nets m a.value r j l) → l.reset ≡ Some (record { 0 = k })
          → (t : Option Cover) → f.table ≡ t → net_table_allows t at b.first ≡ true
      by_table j l listed b e None t = refl
      by_table j l listed b e (Some c) t = first_allowed j l listed b k e f held y c t

  -- ---- the whole

  agrees_at : (k : ℕ) (g : Option FlatNet) → slot net.nets k ≡ g → net_allows g at (at k) ≡ true
  agrees_at k None held = refl
  agrees_at k (Some f) held =
      ⊎_elim
      (λ (y : is_reset_net f ≡ true). reset_agrees k f held y)
      (λ (other : is_reset_net f ≡ false). read_agrees k f held other)
      (cases_Bool (is_reset_net f))

  given : (j : ℕ) (l : FlatLatch) → slice_get net.latches j ≡ Some l → (b : BeginsAt net.nets m a.value r j l)
      → reset_gives net.nets at l.output l.reset b.first
  given j l listed b = by l.reset refl
    where
      by : (o : Option NetId) → l.reset ≡ o → reset_gives net.nets at l.output o b.first
      by None e = ltb-true _ _ (first_low j l listed b)
      by (Some k) e = sym (at_reset j l listed b k.0 e)

  pub assigned : Allows net i s o n r
  assigned = record {
    at = at;
    agrees = record { each = λ k. agrees_at k (slot net.nets k) refl };
    inputs = sym (values_named net formed a.value at alike net.inputs (all-readable net formed net.inputs (read-inputs net formed)))
        ∙ (ap (map a.value) (sym model.inputs) ∙ a.inputs);
    states = sym (values_latched net formed a.value at alike (λ l. l.output) net.latches (outputs_readable net.nets net.latches formed.latches))
        ∙ (ap (map a.value) (sym (outputs_named net.nets net.latches m.latches model.latches)) ∙ a.states);
    outputs = sym (values_named net formed a.value at alike net.outputs (all-readable net formed net.outputs formed.outputs))
        ∙ (ap (map a.value) (sym model.outputs) ∙ a.outputs);
    next = sym (values_latched net formed a.value at alike (λ l. l.input) net.latches (inputs_readable net.nets net.latches formed.latches))
        ∙ (ap (map a.value) (sym (inputs_named net.nets net.latches m.latches model.latches)) ∙ a.next);
    resets = give-each net.nets m a.value at net.latches m.latches r model.latches a.resets given;
  }
