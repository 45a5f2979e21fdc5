-- The model of a well-formed network is sound.
use Rattle.std.proofs.Common.{not, ◌||◌, ◌≡◌, ℕ, Bool, true, false, cond, List, [], ◌∷◌, length, map, refl, sym, ◌∙◌, ap, subst, ⊎_elim, Option, slice_index_or}
use Rattle.std.specs.Prelude.{filter, count_by, All}
use Rattle.std.specs.List.{flat_map}
use Rattle.std.proofs.lemmas.Bool.{or_parts, and_parts, not-true, cases_Bool}
use Rattle.std.proofs.lemmas.List.Elements.{All-nil, All-cons}
use Rattle.std.proofs.lemmas.List.Folds.{list_all-map}
use Rattle.std.proofs.lemmas.List.Sums.{length-filter}
use Rattle.mv_base.specs.Names.{same_word, among, names_differ}
use Rattle.mv_base.specs.declared.number.NetId.{NetId}
use Rattle.mv_base.proofs.NameLemmas.{same_word_is}
use Rattle.mv_design.specs.declared.design.FileModel.{FileModel}
use Rattle.mv_design.specs.declared.table.FileTable.{FileTable}
use Rattle.mv_design.specs.Nets.{nets_of, drivers, latch_outputs, output_of, nets_driven}
use Rattle.mv_acyclic.specs.Sound.{reads_through, reads, StandsAlone, resets_named, IsSoundModel}
use Rattle.mv_acyclic.proofs.Named.{among-nets_of}
use Rattle.mv_graph.specs.Above.{IsAbove, IsAcyclic}
use Rattle.mv_graph.proofs.Paths.{above_first, above_mapped, acyclic_mapped}
use Rattle.mv_net.specs.declared.parts.Kind.TheVariants.{Latch, Reset}
use Rattle.mv_net.specs.declared.parts.FlatNet.{FlatNet}
use Rattle.mv_net.specs.declared.parts.NetParts.{NetParts}
use Rattle.mv_net.specs.Nets.{slot, name_in, reads_in}
use Rattle.mv_net.specs.Formed.{IsKind, IsReadable, WellFormed, latch_outputs as outputs_at}
use Rattle.mv_text.specs.Text.{fanins_of, told_name, numbers}
use Rattle.mv_text_back.proofs.TextModel.{is_reset_net, is_other_net, IsModelOf}
use Rattle.mv_text_back.proofs.Resets.{readable, readable-kind, reset_kind, latch-of, reset-of, net_told-other, output-listed}
use Rattle.mv_text_back.proofs.Numbers.{number_in, number_in-stands, names_at-numbers, among-number, names-differ, range-differs, readable_in}
use Rattle.mv_text_back.proofs.Numbers.{number_named, number_named-readable}
use Rattle.mv_text_back.proofs.Latches.{outputs_named}
use Rattle.mv_text_back.proofs.ModelTables.{IsOfNet, AllOfNets, Passes, some_passes, each_passes, all_of_nets, has_table_at, tabled, outputs_are}
use Rattle.mv_text_back.proofs.ModelTables.{IsTabled, is-tabled}
use Rattle.mv_text_back.proofs.Driven.{one_name, drivers_differ, readable_driver}
use Rattle.mv_text_back.proofs.NamedNets.{named_readable, name_in_list, fanin_read, fanins_readable, output_is}

-- ---- a word among different ones stands there once

filter_first : (w u : List ℕ) (us : List (List ℕ)) (b : Bool) → same_word w u ≡ b
    → filter (same_word w) (u ∷ us) ≡ cond b (u ∷ filter (same_word w) us) (filter (same_word w) us)
filter_first w u us b e = ap (λ c. cond c (u ∷ filter (same_word w) us) (filter (same_word w) us)) e

none_stand : (w : List ℕ) (ws : List (List ℕ)) → among w ws ≡ false → filter (same_word w) ws ≡ []
none_stand w [] e = refl
none_stand w (u ∷ us) e =
    let p = or_parts (same_word w u) (among w us) e in
    filter_first w u us false p.0 ∙ none_stand w us p.1

one_stands : (w : List ℕ) (ws : List (List ℕ)) → names_differ ws ≡ true → among w ws ≡ true → length (filter (same_word w) ws) ≡ 1
one_stands w [] d e = cc
one_stands w (u ∷ us) d e =
    let p = and_parts (not (among u us)) (names_differ us) d in
    ⊎_elim
    (λ (y : same_word w u ≡ true).
    let none = none_stand w us (ap (λ v. among v us) (same_word_is w u y) ∙ not-true _ p.0) in
    ap length (filter_first w u us true y) ∙ ap (λ ws. length (u ∷ ws)) none)
    (λ (n : same_word w u ≡ false). ap length (filter_first w u us false n) ∙ one_stands w us p.1 (ap (λ b. b || among w us) (sym n) ∙ e))
    (cases_Bool (same_word w u))

pub counted_once : (w : List ℕ) (ws : List (List ℕ)) → names_differ ws ≡ true → among w ws ≡ true → count_by (same_word w) ws ≡ 1
counted_once w ws d e = sym (length-filter (same_word w) ws) ∙ one_stands w ws d e

-- ---- each net is driven once

driven_once : (net : NetParts) (m : FileModel) → WellFormed net → IsModelOf net m → (w : List ℕ) → among w (nets_of m) ≡ true → among w (drivers m) ≡ true
driven_once net m formed model w h =
    let n = named_readable net m formed model w (sym (among-nets_of w m) ∙ h) in
    ap (λ v. among v (drivers m)) n.is ∙ readable_driver net m formed model n.number n.readable

-- ---- no net is above itself

-- the number of a net that can be read, by its name
number_at : (net : NetParts) → WellFormed net → (k : ℕ) (w : List ℕ) → IsReadable net.nets k → w ≡ name_in (slot net.nets k) → number_named w net.nets ≡ k
number_at net formed k w r e = ap (λ v. number_named v net.nets) e ∙ number_named-readable net.nets (one_name net formed) k r

-- a column of a net's table has the number of a net that the net reads
column_read : (net : NetParts) → WellFormed net → (test : FlatNet → Bool) (t : FileTable) (o : IsOfNet net.nets test t) (above : List ℕ)
    → among above t.inputs ≡ true → reads_in net.nets o.number (number_named above net.nets) ≡ true
column_read net formed test t o above h =
    let fanins = fanins_of (length net.nets) o.cover in
    let n = name_in_list net.nets fanins above (ap (among above) (sym o.is.inputs) ∙ h) in
    let readable = readable_in net.nets fanins n.number (fanins_readable net formed o.number o.net o.cover o.held o.table) n.among in
    rw (number_at net formed n.number above readable n.is) (fanin_read net o.number o.net o.cover o.held o.table n.number n.among)

-- what a net reads by name it reads by number
reads_number : (net : NetParts) → WellFormed net → (w above : List ℕ) → Passes net.nets is_other_net (reads_through w above)
    → reads_in net.nets (number_named w net.nets) (number_named above net.nets) ≡ true
reads_number net formed w above t =
    let o = t.of_net in
    let p = and_parts (among w t.table.outputs) (among above t.table.inputs) t.passes in
    let other = not-true _ o.passes in
    let own : w ≡ name_in (slot net.nets o.number) = output_is net.nets is_other_net t.table o w p.0 ∙ (net_told-other o.net other ∙ sym (ap name_in o.held)) in
    rw (number_at net formed o.number w (readable net.nets o.number o.net o.held other) own) (column_read net formed is_other_net t.table o above p.1)

reads_numbers : (net : NetParts) (m : FileModel) → WellFormed net → IsModelOf net m → (w above : List ℕ) → reads m w above ≡ true
    → reads_in net.nets (number_named w net.nets) (number_named above net.nets) ≡ true
unfolding reads
reads_numbers net m formed model w above e =
    let tables = all_of_nets net.nets is_other_net m.tables model.tables in
    reads_number net formed w above (some_passes net.nets is_other_net (reads_through w above) m.tables tables e)

acyclic : (net : NetParts) (m : FileModel) → WellFormed net → IsModelOf net m → IsAcyclic (reads m)
acyclic net m formed model =
    acyclic_mapped (reads m) (reads_in net.nets) (λ w. number_named w net.nets) (reads_numbers net m formed model) formed.acyclic

-- ---- reset tables

-- a reset table's output is that of a latch
reset_latch : (net : NetParts) (m : FileModel) → WellFormed net → IsModelOf net m → (t : FileTable) → IsOfNet net.nets is_reset_net t
    → among (output_of t) (latch_outputs m) ≡ true
reset_latch net m formed model t o =
    let has = latch-of net formed o.number o.net o.held o.passes in
    let r = reset-of net formed has.place has.latch has.listed o.number has.reset o.net o.held in
    let told = r.told ∙ sym (ap name_in r.driven.held) in
    let output : output_of t ≡ name_in (slot net.nets has.latch.output.0) = ap (λ ws. slice_index_or ws 0 []) o.is.outputs ∙ told in
    let states = outputs_named net.nets net.latches m.latches model.latches in
    let ids = outputs_at net.latches in
    let listed = number_in-stands has.latch.output ids ∙ output-listed net.latches has.place has.latch has.listed in
    rw (output, states, names_at-numbers net.nets ids) (among-number (λ k. name_in (slot net.nets k)) has.latch.output.0 (numbers ids) listed)

-- each has one output
one_output : (nets : List (Option FlatNet)) (test : FlatNet → Bool) (ts : List FileTable) → AllOfNets nets test ts → map output_of ts ≡ flat_map nets_driven ts
one_output nets test [] all = refl
one_output nets test (t ∷ ts) all = rw (all.0.is.outputs, one_output nets test ts all.1) refl

-- reset nets with one name behind the arrow are one
told_apart : (net : NetParts) → WellFormed net → (k j : ℕ) → IsTabled net.nets is_reset_net k → IsTabled net.nets is_reset_net j
    → told_name (slot net.nets k) ≡ told_name (slot net.nets j) → k ≡ j
told_apart net formed k j t u e =
    let of_k = latch-of net formed k t.net t.held t.passes in
    let of_j = latch-of net formed j u.net u.held u.passes in
    let r = reset-of net formed of_k.place of_k.latch of_k.listed k of_k.reset t.net t.held in
    let s = reset-of net formed of_j.place of_j.latch of_j.listed j of_j.reset u.net u.held in
    let same : r.driven.net.name ≡ s.driven.net.name = sym r.told ∙ (sym (ap told_name t.held) ∙ (e ∙ (ap told_name u.held ∙ s.told))) in
    formed.names k j t.net u.net t.held u.held (r.name ∙ (ap (λ w. 46 ∷ w) same ∙ sym s.name))

resets_differ : (net : NetParts) (m : FileModel) → WellFormed net → IsModelOf net m → names_differ (resets_named m) ≡ true
resets_differ net m formed model =
    let ks = tabled net.nets is_reset_net in
    let resets = all_of_nets net.nets is_reset_net m.resets model.resets in
    let outs = one_output net.nets is_reset_net m.resets resets ∙ outputs_are net.nets is_reset_net m.resets model.resets in
    let apart = λ (k : ℕ) (a : number_in k ks ≡ true) (j : ℕ) (b : number_in j ks ≡ true).
    told_apart net formed k j (is-tabled net.nets is_reset_net k a) (is-tabled net.nets is_reset_net j b) in
    ap names_differ outs ∙ names-differ (λ k. told_name (slot net.nets k)) ks apart (range-differs 0 (length net.nets) (has_table_at net.nets is_reset_net))

-- no latch's output is above a reset value
stands_alone : (net : NetParts) (m : FileModel) → WellFormed net → IsModelOf net m → (t : FileTable) → IsOfNet net.nets is_reset_net t → StandsAlone m t
stands_alone net m formed model t o w h a =
    let nets = net.nets in
    let states = outputs_named nets net.latches m.latches model.latches ∙ names_at-numbers nets (outputs_at net.latches) in
    let n = name_in_list nets (numbers (outputs_at net.latches)) w (ap (among w) (sym states) ∙ h) in
    let id : NetId = record { 0 = n.number } in
    let latch = formed.states.only id (sym (number_in-stands id (outputs_at net.latches)) ∙ n.among) in
    let is : number_named w nets ≡ n.number = number_at net formed n.number w (readable-kind nets n.number Latch refl latch) n.is in
    let reset : IsKind nets o.number Reset = record { net = o.net; held = o.held; is = reset_kind o.net.kind o.passes } in
    let column : reads_in nets o.number (number_named a.column nets) ≡ true = column_read net formed is_reset_net t o a.column a.listed in
    let P : ℕ → Type 0 = λ k. IsAbove (reads_in nets) k o.number in
    let above : IsAbove (reads_in nets) (number_named w nets) o.number = ⊎_elim
    (λ (e : w ≡ a.column). record { path = []; goes = ap (λ u. reads_in nets o.number (number_named u nets)) e ∙ column })
    (λ (b : IsAbove (reads m) w a.column).
    let c = above_mapped (reads m) (reads_in nets) (λ u. number_named u nets) (reads_numbers net m formed model) w a.column b in
    above_first (reads_in nets) o.number (number_named a.column nets) (number_named w nets) column c)
    a.above in
    formed.alone.none n.number o.number latch reset (subst P is above)

all_alone : (net : NetParts) (m : FileModel) → WellFormed net → IsModelOf net m → (ts : List FileTable) → AllOfNets net.nets is_reset_net ts
    → All (StandsAlone m) ts
all_alone net m formed model [] all = All-nil (StandsAlone m)
all_alone net m formed model (t ∷ ts) all = All-cons (StandsAlone m) t ts (stands_alone net m formed model t all.0) (all_alone net m formed model ts all.1)

-- ---- the whole

pub sound-back : (net : NetParts) (m : FileModel) → WellFormed net → IsModelOf net m → IsSoundModel m
sound-back net m formed model =
    let resets = all_of_nets net.nets is_reset_net m.resets model.resets in
    let latches = each_passes net.nets is_reset_net (λ t. among (output_of t) (latch_outputs m)) m.resets (reset_latch net m formed model) resets in
    record {
      driven = record { once = λ w h. counted_once w (drivers m) (drivers_differ net m formed model) (driven_once net m formed model w h) };
      resets = record { latches = list_all-map (λ w. among w (latch_outputs m)) output_of m.resets ∙ latches; differ = resets_differ net m formed model };
      acyclic = acyclic net m formed model;
      alone = all_alone net m formed model m.resets resets;
    }
