-- The lines of a network are written lines, so its text is read back.
use Rattle.std.proofs.Common.{◌≡◌, ℕ, ◌<◌, Bool, true, false, not, ◌==◌, List, [], ◌∷◌, ◌++◌, length, map, codes, decimal, Option, Some, None, refl, ap, ◌∙◌, arith}
use Rattle.std.specs.List.{list_all, flat_map}
use Rattle.std.proofs.lemmas.Bool.{cond_both, and_parts, or_parts, and_from, ne_eqb, not_from_false}
use Rattle.std.proofs.lemmas.List.Folds.{list_all-append, list_all-map}
use Rattle.mv_base.specs.Names.{is_model_name, is_value_name}
use Rattle.mv_base.specs.declared.number.NetId.{NetId}
use Rattle.mv_base.proofs.Lists.{everywhere}
use Rattle.mv_cover.specs.declared.line.Line.{Line}
use Rattle.mv_cover.specs.declared.cover.Cover.{Cover}
use Rattle.mv_cover.specs.Covers.{cover_reads}
use Rattle.mv_net.specs.declared.parts.Kind.TheVariants.{Input, Latch}
use Rattle.mv_net.specs.declared.parts.FlatNet.{FlatNet}
use Rattle.mv_net.specs.declared.parts.FlatLatch.{FlatLatch}
use Rattle.mv_net.specs.declared.parts.NetParts.{NetParts}
use Rattle.mv_net.specs.Nets.{slot, name_in, spelled_in, spelled_values, table_reads, net_reads}
use Rattle.mv_net.specs.Formed.{IsReadable, IsLatch, AllLatches, WellFormed}
use Rattle.mv_graph.specs.Nets.{has_id}
use Rattle.mv_net.proofs.Known.{reads_readable}
use Rattle.mv_lex.specs.Lines.{lines_of, is_clean}
use Rattle.mv_text.specs.Text.{fanins_of, fanin_word, set_in, entry_word, line_words, default_words, head_word, told_name, head_words, cover_words, table_words, net_words}
use Rattle.mv_text.specs.Text.{is_plain_pair, decl_words, latch_words, inner_lines, net_lines, names_of, text_of}
use Rattle.mv_text_back.proofs.TextModel.{is_reset_net, needs_none, begin_word}
use Rattle.mv_text_back.proofs.Resets.{readable, readable-kind, readable-lawful, net_told-lawful}
use Rattle.mv_lines_back.specs.TextWords.{is_written_word, is_written_line, lines_from}
use Rattle.mv_decl.proofs.Decimals.{decimal-value_name}
use Rattle.mv_text_back.proofs.Spelled.{spelled-held}
use Rattle.mv_text_back.proofs.Lawful.{net_name-written, value_name-written, value_names-written, entry-written}
use Rattle.mv_lines_back.proofs.Lists.{plain-written}
use Rattle.mv_text_back.proofs.Passes.{flat_map-pass, stands-pass, picked-pass}
use Rattle.mv_lines_back.proofs.Written.{lines_of-written, is_clean-written}

-- ---- lines

line-written : (w : List ℕ) (ws : List (List ℕ)) → is_written_word w ≡ true → list_all is_written_word ws ≡ true → is_written_line (w ∷ ws) ≡ true
unfolding is_written_line
line-written w ws h rest =
    and_from (not (length (w ∷ ws) == 0)) _ (not_from_false _ (ne_eqb (length (w ∷ ws)) 0 (λ z. omega arith))) (and_from (is_written_word w) _ h rest)

-- a line by its last word
line-last : (ws : List (List ℕ)) (w : List ℕ) → list_all is_written_word ws ≡ true → is_written_word w ≡ true → is_written_line (ws ++ w ∷ []) ≡ true
line-last [] w h last = line-written w [] last refl
line-last (v ∷ ws) w h last =
    let both = and_parts (is_written_word v) (list_all is_written_word ws) h in
    line-written v (ws ++ w ∷ []) both.0 (list_all-append is_written_word ws (w ∷ []) ∙ and_from (list_all is_written_word ws) _ both.1 (and_from (is_written_word w) _ last refl))

one_line : (ws : List (List ℕ)) → is_written_line ws ≡ true → list_all is_written_line (ws ∷ []) ≡ true
one_line ws h = and_from (is_written_line ws) _ h refl

-- ---- the lines of a network

module _ (net : NetParts) (formed : WellFormed net) where
  name_written : (n : ℕ) → IsReadable net.nets n → is_written_word (name_in (slot net.nets n)) ≡ true
  name_written n r = net_name-written (name_in (slot net.nets n)) (readable-lawful net formed n r)

  values_lawful : (n : ℕ) → list_all is_value_name (spelled_in (slot net.nets n)) ≡ true
  values_lawful n = by_slot (slot net.nets n) refl
    where
      by_slot : (o : Option FlatNet) → slot net.nets n ≡ o → list_all is_value_name (spelled_in o) ≡ true
      by_slot None e = refl
      by_slot (Some f) e = (spelled-held net formed n f e).lawful

  -- the declaration of a net
  decl_written : (n : ℕ) → list_all is_written_line (decl_words (slot net.nets n)) ≡ true
  decl_written n = by_slot (slot net.nets n) refl
    where
      line : (f : FlatNet) → slot net.nets n ≡ Some f → is_reset_net f ≡ false
          → is_written_line (codes ".mv" ∷ f.name ∷ decimal f.values ∷ f.value_names) ≡ true
      line f e other =
          let is = formed.nets n f e in
          let name = net_name-written f.name (is.name (readable net.nets n f e other).plain) in
          let count = value_name-written (decimal f.values) (decimal-value_name f.values (omega (arith, is.few))) in
          line-written (codes ".mv") (f.name ∷ decimal f.values ∷ f.value_names) (plain-written (codes ".mv") refl) (and_from (is_written_word f.name) _ name (and_from (is_written_word (decimal f.values)) _ count (value_names-written f.value_names is.named.lawful)))

      by_slot : (o : Option FlatNet) → slot net.nets n ≡ o → list_all is_written_line (decl_words o) ≡ true
      by_slot None e = refl
      by_slot (Some f) e =
          cond_both (needs_none f) _ _ (λ ls. list_all is_written_line ls ≡ true) (λ y. refl) (λ y. one_line _ (line f e (or_parts (is_reset_net f) (is_plain_pair f) y).0))

  -- the line of a latch
  latch_written : (l : FlatLatch) → IsLatch net.nets l → is_written_line (latch_words net.nets l) ≡ true
  latch_written l is =
      let input = name_written l.input.0 is.input in
      let output = name_written l.output.0 (readable-kind net.nets l.output.0 Latch refl is.output) in
      line-written (codes ".latch") (name_in (slot net.nets l.input.0) ∷ name_in (slot net.nets l.output.0) ∷ []) (plain-written (codes ".latch") refl) (and_from _ _ input (and_from _ _ output refl))

  latches_written : (ls : List FlatLatch) → AllLatches net.nets ls → list_all is_written_line (map (latch_words net.nets) ls) ≡ true
  latches_written [] all = refl
  latches_written (l ∷ ls) all = and_from _ _ (latch_written l all.0) (latches_written ls all.1)

  -- the word that begins a table
  begin_written : (b : Bool) → is_written_word (begin_word b) ≡ true
  begin_written true = plain-written (codes ".reset") refl
  begin_written false = plain-written (codes ".table") refl

  -- the head of the table of a net: what its cover reads can be read
  head_written : (n : ℕ) (f : FlatNet) (c : Cover) → slot net.nets n ≡ Some f → f.table ≡ Some c
      → is_written_line (head_words net.nets (head_word (Some f)) (fanins_of (length net.nets) c) (told_name (Some f))) ≡ true
  head_written n f c held table =
      let reads : (m : ℕ) → cover_reads c m ≡ true → net_reads (slot net.nets n) m ≡ true = λ m y. ap (λ o. net_reads o m) held ∙ (ap (λ t. table_reads t m) table ∙ y) in
      let fanin : (m : ℕ) → m < length net.nets → cover_reads c m ≡ true → is_written_word (name_in (slot net.nets m)) ≡ true = λ m low y. name_written m (reads_readable net n m formed (reads m y)) in
      let names : List (List ℕ) = map (λ m. name_in (slot net.nets m)) (fanins_of (length net.nets) c) in
      let fanins : list_all is_written_word names ≡ true = list_all-map is_written_word (λ m. name_in (slot net.nets m)) (fanins_of (length net.nets) c) ∙ picked-pass (λ m. cover_reads c m) (λ m. is_written_word (name_in (slot net.nets m))) 0 (length net.nets) (length net.nets) (omega arith) fanin in
      let name = net_name-written (told_name (Some f)) (net_told-lawful net formed n f held) in
      line-written (head_word (Some f)) (names ++ codes "->" ∷ told_name (Some f) ∷ []) (begin_written (is_reset_net f)) (list_all-append is_written_word names (codes "->" ∷ told_name (Some f) ∷ []) ∙ and_from (list_all is_written_word names) _ fanins (and_from (is_written_word (codes "->")) _ (plain-written (codes "->") refl) (and_from (is_written_word (told_name (Some f))) _ name refl)))

  -- its rows and its default, over lawful names of values
  row_written : (values : List (List ℕ)) (fanins : List ℕ) → list_all is_value_name values ≡ true → (l : Line) → is_written_line (line_words net.nets values fanins l) ≡ true
  row_written values fanins h l =
      line-last (map (fanin_word net.nets l.cube) fanins) (entry_word values l.out) (list_all-map is_written_word (fanin_word net.nets l.cube) fanins ∙ everywhere (λ m. is_written_word (fanin_word net.nets l.cube m)) (λ m. entry-written (spelled_in (slot net.nets m)) (set_in net.nets l.cube m) (values_lawful m)) fanins) (entry-written values l.out h)

  default_written : (values : List (List ℕ)) → list_all is_value_name values ≡ true → (default : Option ℕ) → list_all is_written_line (default_words values default) ≡ true
  default_written values h None = refl
  default_written values h (Some set) =
      one_line (codes ".default" ∷ entry_word values set ∷ []) (line-written (codes ".default") (entry_word values set ∷ []) (plain-written (codes ".default") refl) (and_from (is_written_word (entry_word values set)) _ (entry-written values set h) refl))

  cover_written : (n : ℕ) (f : FlatNet) (c : Cover) → slot net.nets n ≡ Some f → f.table ≡ Some c
      → list_all is_written_line (cover_words net.nets (head_word (Some f)) (spelled_values f.values f.value_names) (told_name (Some f)) (fanins_of (length net.nets) c) c) ≡ true
  cover_written n f c held table =
      let values = spelled_values f.values f.value_names in
      let fanins = fanins_of (length net.nets) c in
      let lawful = (spelled-held net formed n f held).lawful in
      let rows : list_all is_written_line (map (line_words net.nets values fanins) c.lines) ≡ true = list_all-map is_written_line (line_words net.nets values fanins) c.lines ∙ everywhere (λ l. is_written_line (line_words net.nets values fanins l)) (row_written values fanins lawful) c.lines in
      and_from (is_written_line (head_words net.nets (head_word (Some f)) fanins (told_name (Some f)))) _ (head_written n f c held table) (list_all-append is_written_line (default_words values c.default) _ ∙ and_from (list_all is_written_line (default_words values c.default)) _ (default_written values lawful c.default) rows)

  -- the table of a net
  table_written : (n : ℕ) → list_all is_written_line (net_words net.nets (slot net.nets n)) ≡ true
  table_written n = by_slot (slot net.nets n) refl
    where
      by_table : (f : FlatNet) (t : Option Cover) → slot net.nets n ≡ Some f → f.table ≡ t
          → list_all is_written_line (table_words net.nets (head_word (Some f)) t (spelled_values f.values f.value_names) (told_name (Some f))) ≡ true
      by_table f None held e = refl
      by_table f (Some c) held e = cover_written n f c held e

      by_slot : (o : Option FlatNet) → slot net.nets n ≡ o → list_all is_written_line (net_words net.nets o) ≡ true
      by_slot None e = refl
      by_slot (Some f) e = by_table f f.table e refl

  inner_written : list_all is_written_line (inner_lines net) ≡ true
  inner_written =
      let latches = map (latch_words net.nets) net.latches in
      let tables = flat_map (net_words net.nets) net.nets in
      list_all-append is_written_line (flat_map decl_words net.nets) (latches ++ tables)
      ∙ and_from (list_all is_written_line (flat_map decl_words net.nets)) _ (flat_map-pass is_written_line decl_words net.nets None decl_written)
      (list_all-append is_written_line latches tables ∙ and_from (list_all is_written_line latches) _ (latches_written net.latches formed.latches) (flat_map-pass is_written_line (net_words net.nets) net.nets None table_written))

  -- the line of the inputs, and that of the outputs
  names_written : (ns : List NetId) → ((n : NetId) → has_id ns n.0 ≡ true → IsReadable net.nets n.0) → list_all is_written_word (names_of net.nets ns) ≡ true
  names_written ns each =
      list_all-map is_written_word (λ (n : NetId). name_in (slot net.nets n.0)) ns
      ∙ stands-pass (λ n. is_written_word (name_in (slot net.nets n.0))) ns (λ n s. name_written n.0 (each n s))

  inputs_written : is_written_line (codes ".inputs" ∷ names_of net.nets net.inputs) ≡ true
  inputs_written =
      line-written (codes ".inputs") (names_of net.nets net.inputs) (plain-written (codes ".inputs") refl) (names_written net.inputs (λ n s. readable-kind net.nets n.0 Input refl (formed.inputs.only n s)))

  outputs_written : is_written_line (codes ".outputs" ∷ names_of net.nets net.outputs) ≡ true
  outputs_written =
      line-written (codes ".outputs") (names_of net.nets net.outputs) (plain-written (codes ".outputs") refl) (names_written net.outputs formed.outputs)

  root_written : is_written_line (codes ".model" ∷ net.root ∷ []) ≡ true
  unfolding is_model_name
  root_written =
      let name = net_name-written net.root (and_parts _ _ formed.root).0 in
      line-written (codes ".model") (net.root ∷ []) (plain-written (codes ".model") refl) (and_from (is_written_word net.root) _ name refl)

-- all lines
pub net_lines-written : (net : NetParts) → WellFormed net → list_all is_written_line (net_lines net) ≡ true
unfolding net_lines
net_lines-written net formed =
    let end : is_written_line (codes ".end" ∷ []) ≡ true = line-written (codes ".end") [] (plain-written (codes ".end") refl) refl in
    let inner : list_all is_written_line (inner_lines net ++ (codes ".end" ∷ []) ∷ []) ≡ true = list_all-append is_written_line (inner_lines net) _ ∙ and_from (list_all is_written_line (inner_lines net)) _ (inner_written net formed) (one_line (codes ".end" ∷ []) end) in
    and_from _ _ (root_written net formed) (and_from _ _ (inputs_written net formed) (and_from _ _ (outputs_written net formed) inner))

-- the text is read back as its lines
pub lines-back : (net : NetParts) → WellFormed net → lines_of (text_of net) ≡ lines_from 1 (net_lines net)
unfolding text_of
lines-back net formed = lines_of-written (net_lines net) (net_lines-written net formed)

-- and is clean
pub clean-back : (net : NetParts) → WellFormed net → is_clean (text_of net) ≡ true
unfolding text_of
clean-back net formed = is_clean-written (net_lines net) (net_lines-written net formed)
