-- The driven nets of a network: its inputs, the outputs of its latches, and the nets with tables that are no reset nets. Each
-- net that can be read is one of them, and their names are the drivers of the network's model.
use Rattle.std.proofs.Common.{◌≡◌, ℕ, true, false, List, [], ◌∷◌, ◌++◌, length, Option, Some, is_some, refl, sym, ◌∙◌, ap, append_assoc, ⊎_elim}
use Rattle.std.proofs.lemmas.Bool.{or_cases, or_left, or_right, not-true, not_from_false, eq-eqb}
use Rattle.std.proofs.lemmas.Option.{same_Some}
use Rattle.mv_base.specs.Names.{among, names_differ}
use Rattle.mv_base.specs.declared.number.NetId.{NetId}
use Rattle.mv_design.specs.declared.design.FileModel.{FileModel}
use Rattle.mv_design.specs.Nets.{drivers}
use Rattle.mv_net.specs.declared.parts.Kind.{Kind}
use Rattle.mv_net.specs.declared.parts.Kind.TheVariants.{Input, Latch, Table, Reset}
use Rattle.mv_net.specs.declared.parts.FlatNet.{FlatNet}
use Rattle.mv_net.specs.declared.parts.NetParts.{NetParts}
use Rattle.mv_net.specs.Nets.{slot, name_in}
use Rattle.mv_net.specs.Index.{is_reset}
use Rattle.mv_net.specs.Formed.{WellFormed, IsKind, IsReadable, AreKind, has_table, latch_outputs}
use Rattle.mv_text.specs.Text.{told_name, numbers}
use Rattle.mv_text_back.proofs.TextModel.{is_other_net, IsModelOf}
use Rattle.mv_text_back.proofs.Resets.{readable, readable-other, net_told-other}
use Rattle.mv_text_back.proofs.Numbers.{number_in, numbers_differ, number_in-stands, numbers_differ-all, names_at, names_at-numbers, AllReadable, AllReadable-append, readable_from, OneName}
use Rattle.mv_text_back.proofs.Numbers.{among-number, readable_differ, range-differs, number_in-append, differ-append, names_at-append}
use Rattle.mv_text_back.proofs.Ports.{all-readable, read-inputs}
use Rattle.mv_text_back.proofs.Latches.{outputs_named, outputs_readable}
use Rattle.mv_text_back.proofs.ModelTables.{has_table_at, told_at, tabled, outputs_are, is-tabled, tabled-in}

-- ---- the numbers of all driven nets

-- those with tables, that are no reset nets
abbrev pub tables_at : NetParts → List ℕ
tables_at net = tabled net.nets is_other_net

-- those that an input of the model or a latch drives
abbrev pub ports_at : NetParts → List ℕ
ports_at net = numbers net.inputs ++ numbers (latch_outputs net.latches)

abbrev pub driven : NetParts → List ℕ
driven net = ports_at net ++ tables_at net

-- the name behind the arrow of a table of the model is that of its net
told_names : (nets : List (Option FlatNet)) (ks : List ℕ) → ((k : ℕ) → number_in k ks ≡ true → number_in k (tabled nets is_other_net) ≡ true)
    → told_at nets ks ≡ names_at nets ks
told_names nets [] each = refl
told_names nets (k ∷ ks) each =
    let t = is-tabled nets is_other_net k (each k (or_left _ _ (eq-eqb k k refl))) in
    let same : told_name (slot nets k) ≡ name_in (slot nets k) = ap told_name t.held ∙ (net_told-other t.net (not-true _ t.passes) ∙ sym (ap name_in t.held)) in
    rw (same, told_names nets ks (λ j h. each j (or_right _ _ h))) refl

-- the drivers of the model are their names
pub drivers_are : (net : NetParts) (m : FileModel) → IsModelOf net m → drivers m ≡ names_at net.nets (driven net)
unfolding drivers
drivers_are net m model =
    let ins = model.inputs ∙ names_at-numbers net.nets net.inputs in
    let states = outputs_named net.nets net.latches m.latches model.latches ∙ names_at-numbers net.nets (latch_outputs net.latches) in
    let outs = outputs_are net.nets is_other_net m.tables model.tables ∙ told_names net.nets (tables_at net) (λ k h. h) in
    let ports = names_at-append net.nets (numbers net.inputs) (numbers (latch_outputs net.latches)) in
    rw (ins, states, outs, names_at-append net.nets (ports_at net) (tables_at net), ports)
    (sym (append_assoc (names_at net.nets (numbers net.inputs)) (names_at net.nets (numbers (latch_outputs net.latches))) (names_at net.nets (tables_at net))))

-- ---- they can be read and differ

pub one_name : (net : NetParts) → WellFormed net → OneName net.nets
one_name net formed = record { only = formed.names }

pub driven_readable : (net : NetParts) → WellFormed net → AllReadable net.nets (driven net)
driven_readable net formed =
    let ports = AllReadable-append net.nets (numbers net.inputs) (numbers (latch_outputs net.latches)) (all-readable net formed net.inputs (read-inputs net formed)) (outputs_readable net.nets net.latches formed.latches) in
    let tables = readable_from net.nets (tables_at net) (λ k h. let t = is-tabled net.nets is_other_net k h in readable net.nets k t.net t.held (not-true _ t.passes)) in
    AllReadable-append net.nets (ports_at net) (tables_at net) ports tables

-- the kind of a net of a list of nets of one kind
kind_at : (nets : List (Option FlatNet)) (kind : Kind) (ns : List NetId) → AreKind nets kind ns → (k : ℕ) → number_in k (numbers ns) ≡ true → IsKind nets k kind
kind_at nets kind ns are k h =
    let n : NetId = record { 0 = k } in
    are.only n (sym (number_in-stands n ns) ∙ h)

table_kind : (k : Kind) → has_table k ≡ true → is_reset (Some k) ≡ false → k ≡ Table
table_kind Input e f = cc
table_kind Latch e f = cc
table_kind Table e f = refl
table_kind Reset e f = cc

tabled_kind : (net : NetParts) → WellFormed net → (k : ℕ) → number_in k (tables_at net) ≡ true → IsKind net.nets k Table
tabled_kind net formed k h =
    let t = is-tabled net.nets is_other_net k h in
    record { net = t.net; held = t.held; is = table_kind t.net.kind (sym (formed.nets k t.net t.held).table ∙ t.table) (not-true _ t.passes) }

-- a net has one kind
one_kind : (nets : List (Option FlatNet)) (k : ℕ) (a b : Kind) → IsKind nets k a → IsKind nets k b → a ≡ b
one_kind nets k a b i j = sym i.is ∙ (ap (λ (f : FlatNet). f.kind) (same_Some i.net j.net (sym i.held ∙ j.held)) ∙ j.is)

driven_differ : (net : NetParts) → WellFormed net → numbers_differ (driven net) ≡ true
driven_differ net formed =
    let latches = latch_outputs net.latches in
    let input = kind_at net.nets Input net.inputs formed.inputs in
    let latch = kind_at net.nets Latch latches formed.states in
    let apart : (k : ℕ) → number_in k (numbers net.inputs) ≡ true → number_in k (numbers latches) ≡ true → ⊥ = λ k a b. (let e = one_kind net.nets k Input Latch (input k a) (latch k b) in cc) in
    let ports : numbers_differ (ports_at net) ≡ true = differ-append (numbers net.inputs) (numbers latches) (numbers_differ-all net.inputs formed.inputs.once) (numbers_differ-all latches formed.states.once) apart in
    differ-append (ports_at net) (tables_at net) ports (range-differs 0 (length net.nets) (has_table_at net.nets is_other_net)) (λ k a b.
    ⊎_elim
    (λ (y : number_in k (numbers net.inputs) ≡ true). (let e = one_kind net.nets k Input Table (input k y) (tabled_kind net formed k b) in cc))
    (λ (y : number_in k (numbers latches) ≡ true). (let e = one_kind net.nets k Latch Table (latch k y) (tabled_kind net formed k b) in cc))
    (or_cases _ _ (sym (number_in-append k (numbers net.inputs) (numbers latches)) ∙ a)))

pub drivers_differ : (net : NetParts) (m : FileModel) → WellFormed net → IsModelOf net m → names_differ (drivers m) ≡ true
drivers_differ net m formed model =
    ap names_differ (drivers_are net m model)
    ∙ readable_differ net.nets (one_name net formed) (driven net) (driven_readable net formed) (driven_differ net formed)

-- ---- each net that can be read is among them

in_ports : (net : NetParts) (k : ℕ) → number_in k (ports_at net) ≡ true → number_in k (driven net) ≡ true
in_ports net k h = number_in-append k (ports_at net) (tables_at net) ∙ or_left _ _ h

with_kind : (net : NetParts) → WellFormed net → (k : ℕ) (r : IsReadable net.nets k) (kind : Kind) → r.net.kind ≡ kind → number_in k (driven net) ≡ true
with_kind net formed k r Input e =
    let n : NetId = record { 0 = k } in
    let here = number_in-stands n net.inputs ∙ formed.inputs.all n (record { net = r.net; held = r.held; is = e }) in
    in_ports net k (number_in-append k (numbers net.inputs) (numbers (latch_outputs net.latches)) ∙ or_left _ _ here)
with_kind net formed k r Latch e =
    let n : NetId = record { 0 = k } in
    let here = number_in-stands n (latch_outputs net.latches) ∙ formed.states.all n (record { net = r.net; held = r.held; is = e }) in
    in_ports net k (number_in-append k (numbers net.inputs) (numbers (latch_outputs net.latches)) ∙ or_right _ _ here)
with_kind net formed k r Table e =
    let other : is_other_net r.net ≡ true = not_from_false _ (readable-other net.nets k r) in
    let table : is_some r.net.table ≡ true = (formed.nets k r.net r.held).table ∙ ap has_table e in
    number_in-append k (ports_at net) (tables_at net) ∙ or_right _ _ (tabled-in net.nets is_other_net k r.net r.held other table)
with_kind net formed k r Reset e = absurd (r.plain e)

-- so its name is that of a driver
pub readable_driver : (net : NetParts) (m : FileModel) → WellFormed net → IsModelOf net m → (k : ℕ) → IsReadable net.nets k
    → among (name_in (slot net.nets k)) (drivers m) ≡ true
readable_driver net m formed model k r =
    ap (among (name_in (slot net.nets k))) (drivers_are net m model)
    ∙ among-number (λ j. name_in (slot net.nets j)) k (driven net) (with_kind net formed k r r.net.kind refl)
