-- The nets that a network's model names are nets of the network that can be read.
use Rattle.std.proofs.Common.{◌≡◌, ℕ, true, Bool, ◌||◌, List, [], ◌∷◌, length, Option, Some, refl, sym, ◌∙◌, ap, ⊎_elim}
use Rattle.std.specs.List.{flat_map}
use Rattle.std.proofs.lemmas.Bool.{false≢true, or_cases, or_left, or_right, eq-eqb}
use Rattle.mv_base.specs.Names.{same_word, among}
use Rattle.mv_base.specs.declared.number.NetId.{NetId}
use Rattle.mv_base.proofs.NameLemmas.{same_word_is}
use Rattle.mv_cover.specs.declared.cover.Cover.{Cover}
use Rattle.mv_cover.specs.Covers.{cover_reads}
use Rattle.mv_design.specs.declared.table.FileTable.{FileTable}
use Rattle.mv_design.specs.declared.design.FileModel.{FileModel}
use Rattle.mv_design.specs.Nets.{columns_of, latch_inputs, latch_outputs, nets_named}
use Rattle.mv_acyclic.proofs.Soundness.{in_either}
use Rattle.mv_acyclic.proofs.Commands.{among-nets_named}
use Rattle.mv_net.specs.declared.parts.FlatNet.{FlatNet}
use Rattle.mv_net.specs.declared.parts.NetParts.{NetParts}
use Rattle.mv_net.specs.Nets.{slot, name_in, net_reads}
use Rattle.mv_net.specs.Formed.{IsReadable, WellFormed, latch_outputs as outputs_at}
use Rattle.mv_net.proofs.Known.{reads_readable}
use Rattle.mv_text.specs.Text.{fanins_of, told_name, names_of, numbers}
use Rattle.mv_text_back.proofs.TextModel.{is_reset_net, is_other_net, IsModelOf}
use Rattle.mv_text_back.proofs.Resets.{net_told}
use Rattle.mv_text_back.proofs.Numbers.{number_in, names_at, names_at-numbers, AllReadable, readable_from, readable_in, range-passes, passes-at}
use Rattle.mv_text_back.proofs.Ports.{all-readable, read-inputs}
use Rattle.mv_text_back.proofs.Latches.{latch_inputs as inputs_at, inputs_named, outputs_named, inputs_readable, outputs_readable}
use Rattle.mv_text_back.proofs.ModelTables.{IsOfNet, AllOfNets, all_of_nets}

-- the word is the name of a net that can be read
pub record IsNameOf (nets : List (Option FlatNet)) (w : List ℕ) : Type 0 where
  pub number : ℕ
  pub readable : IsReadable nets number
  pub is : w ≡ name_in (slot nets number)

-- a name of some numbers is that of one of them
pub record IsNameIn (nets : List (Option FlatNet)) (ks : List ℕ) (w : List ℕ) : Type 0 where
  pub number : ℕ
  pub among : number_in number ks ≡ true
  pub is : w ≡ name_in (slot nets number)

pub name_in_list : (nets : List (Option FlatNet)) (ks : List ℕ) (w : List ℕ) → among w (names_at nets ks) ≡ true → IsNameIn nets ks w
name_in_list nets [] w h = cc
name_in_list nets (k ∷ ks) w h =
    ⊎_elim
    (λ (y : same_word w (name_in (slot nets k)) ≡ true). record { number = k; among = or_left _ _ (eq-eqb k k refl); is = same_word_is w _ y })
    (λ (y : among w (names_at nets ks) ≡ true).
    let n = name_in_list nets ks w y in
    record { number = n.number; among = or_right _ _ n.among; is = n.is })
    (or_cases _ _ h)

name_of : (nets : List (Option FlatNet)) (ks : List ℕ) (w : List ℕ) → AllReadable nets ks → among w (names_at nets ks) ≡ true → IsNameOf nets w
name_of nets ks w all h =
    let n = name_in_list nets ks w h in
    record { number = n.number; readable = readable_in nets ks n.number all n.among; is = n.is }

-- one of the names of ports, or of the nets of latches
listed_named : (nets : List (Option FlatNet)) (ns : List NetId) (ws : List (List ℕ)) (w : List ℕ) → AllReadable nets (numbers ns) → ws ≡ names_of nets ns
    → among w ws ≡ true → IsNameOf nets w
listed_named nets ns ws w all is h = name_of nets (numbers ns) w all (ap (among w) (sym (is ∙ names_at-numbers nets ns)) ∙ h)

-- ---- columns of tables and reset tables

-- a fanin of a net's cover is read by the net
pub fanin_read : (net : NetParts) (k : ℕ) (f : FlatNet) (c : Cover) → slot net.nets k ≡ Some f → f.table ≡ Some c → (m : ℕ)
    → number_in m (fanins_of (length net.nets) c) ≡ true → net_reads (slot net.nets k) m ≡ true
fanin_read net k f c h t m i =
    let all = range-passes 0 (length net.nets) (λ j. cover_reads c j) in
    let reads : cover_reads c m ≡ true = passes-at m (fanins_of (length net.nets) c) (λ j. cover_reads c j) all i in
    rw (h, t) reads

pub fanins_readable : (net : NetParts) → WellFormed net → (k : ℕ) (f : FlatNet) (c : Cover) → slot net.nets k ≡ Some f → f.table ≡ Some c
    → AllReadable net.nets (fanins_of (length net.nets) c)
fanins_readable net formed k f c h t =
    readable_from net.nets (fanins_of (length net.nets) c) (λ m i. reads_readable net k m formed (fanin_read net k f c h t m i))

one_word : (w u : List ℕ) → among w (u ∷ []) ≡ true → w ≡ u
one_word w u h =
    ⊎_elim
    (λ (y : same_word w u ≡ true). same_word_is w u y)
    (λ (y : among w [] ≡ true). absurd (false≢true y))
    (or_cases (same_word w u) (among w []) h)

-- the output of a net's table is the name behind the arrow
pub output_is : (nets : List (Option FlatNet)) (test : FlatNet → Bool) (t : FileTable) (o : IsOfNet nets test t) (w : List ℕ) → among w t.outputs ≡ true
    → w ≡ told_name (Some o.net)
output_is nets test t o w h = one_word w (told_name (Some o.net)) (ap (among w) (sym o.is.outputs) ∙ h)

module _ (net : NetParts) (formed : WellFormed net) (test : FlatNet → Bool) (w : List ℕ) where
  column_named : (t : FileTable) → IsOfNet net.nets test t → among w (columns_of t) ≡ true → IsNameOf net.nets w
  column_named t o h =
      let fanins = fanins_of (length net.nets) o.cover in
      let can_read = fanins_readable net formed o.number o.net o.cover o.held o.table in
      let by = net_told net formed o.number o.net o.held in
      ⊎_elim
      (λ (y : among w t.inputs ≡ true). name_of net.nets fanins w can_read (ap (among w) (sym o.is.inputs) ∙ y))
      (λ (y : among w t.outputs ≡ true).
      record { number = by.number; readable = by.driven; is = output_is net.nets test t o w y ∙ (by.name ∙ sym (ap name_in by.driven.held)) })
      (in_either w t.inputs t.outputs h)

  columns_named : (ts : List FileTable) → AllOfNets net.nets test ts → among w (flat_map columns_of ts) ≡ true → IsNameOf net.nets w
  columns_named [] all h = absurd (false≢true h)
  columns_named (t ∷ ts) all h =
      ⊎_elim
      (λ (y : among w (columns_of t) ≡ true). column_named t all.0 y)
      (λ (y : among w (flat_map columns_of ts) ≡ true). columns_named ts all.1 y)
      (in_either w (columns_of t) (flat_map columns_of ts) h)

-- ---- the whole

module _ (net : NetParts) (m : FileModel) (formed : WellFormed net) (model : IsModelOf net m) (w : List ℕ) where
  -- the name is that of a net of a latch, or of a column
  abbrev of_latch : Bool
  of_latch = among w (latch_inputs m) || among w (latch_outputs m)

  abbrev of_table : Bool
  of_table = among w (flat_map columns_of m.resets) || among w (flat_map columns_of m.tables)

  latch_named : of_latch ≡ true → IsNameOf net.nets w
  latch_named h =
      let ins = inputs_named net.nets net.latches m.latches model.latches in
      let outs = outputs_named net.nets net.latches m.latches model.latches in
      ⊎_elim
      (λ (y : among w (latch_inputs m) ≡ true).
      listed_named net.nets (inputs_at net.latches) (latch_inputs m) w (inputs_readable net.nets net.latches formed.latches) ins y)
      (λ (y : among w (latch_outputs m) ≡ true).
      listed_named net.nets (outputs_at net.latches) (latch_outputs m) w (outputs_readable net.nets net.latches formed.latches) outs y)
      (or_cases _ _ h)

  table_named : of_table ≡ true → IsNameOf net.nets w
  table_named h =
      ⊎_elim
      (λ (y : among w (flat_map columns_of m.resets) ≡ true).
      columns_named net formed is_reset_net w m.resets (all_of_nets net.nets is_reset_net m.resets model.resets) y)
      (λ (y : among w (flat_map columns_of m.tables) ≡ true).
      columns_named net formed is_other_net w m.tables (all_of_nets net.nets is_other_net m.tables model.tables) y)
      (or_cases _ _ h)

  pub named_readable : among w (nets_named m) ≡ true → IsNameOf net.nets w
  named_readable h =
      let ins = all-readable net formed net.inputs (read-inputs net formed) in
      let outs = all-readable net formed net.outputs formed.outputs in
      ⊎_elim
      (λ (y : among w m.inputs ≡ true). listed_named net.nets net.inputs m.inputs w ins model.inputs y)
      (λ (y : (among w m.outputs || (of_latch || of_table)) ≡ true).
      ⊎_elim
      (λ (z : among w m.outputs ≡ true). listed_named net.nets net.outputs m.outputs w outs model.outputs z)
      (λ (z : (of_latch || of_table) ≡ true). ⊎_elim latch_named table_named (or_cases of_latch of_table z))
      (or_cases _ _ y))
      (or_cases _ _ (sym (among-nets_named w m) ∙ h))
