-- The table or the reset table of a net in the network's model allows what the net's cover allows.
use Rattle.std.proofs.Common.{◌≡◌, ℕ, Bool, true, List, [], ◌∷◌, length, map, Option, Some, refl, sym, ◌∙◌, ap, arith}
use Rattle.std.specs.Prelude.{option_map}
use Rattle.std.specs.List.{list_all}
use Rattle.std.proofs.lemmas.Bool.{and_from}
use Rattle.mv_base.specs.declared.number.NetId.{NetId}
use Rattle.mv_cover.specs.declared.cover.Cover.{Cover}
use Rattle.mv_cover.specs.Covers.{cover_reads, lines_read, allowed}
use Rattle.mv_design.specs.declared.table.FileTable.{FileTable}
use Rattle.mv_design.specs.Tables.{table_allows}
use Rattle.mv_design.specs.Meaning.{table_holds}
use Rattle.mv_net.specs.declared.parts.FlatNet.{FlatNet}
use Rattle.mv_net.specs.declared.parts.FlatLatch.{FlatLatch}
use Rattle.mv_net.specs.declared.parts.NetParts.{NetParts}
use Rattle.mv_net.specs.Nets.{slot, name_in}
use Rattle.mv_net.specs.Formed.{IsReadable, WellFormed}
use Rattle.mv_net.proofs.Known.{readable_below, reads_readable}
use Rattle.mv_text.specs.Text.{fanins_of, told_name, names_of, numbers}
use Rattle.mv_text_back.proofs.TextModel.{set_entries, row_said, fanin_names, IsTableOf}
use Rattle.mv_text_back.proofs.Numbers.{number_in, names_at, names_at-numbers, in-range, AllReadable}
use Rattle.mv_text_back.proofs.Latches.{latches_at}
use Rattle.mv_text_back.proofs.NamedNets.{fanins_readable}
use Rattle.mv_text_back.proofs.CoverRows.{is_low, rows_allow}

-- the columns of a table read its fanins
reads_fanins : (net : NetParts) → WellFormed net → (k : ℕ) (f : FlatNet) (c : Cover) → slot net.nets k ≡ Some f → f.table ≡ Some c → (n : ℕ) → lines_read c.lines n ≡ true → number_in n (fanins_of (length net.nets) c) ≡ true
reads_fanins net formed k f c h t n e =
    in-range n 0 (length net.nets) (λ m. cover_reads c m) (omega arith) (omega (arith, readable_below net.nets n (reads_readable net k n formed (rw (h, t) e)))) e

-- the table of a cover allows these outputs where its fanins have these values
abbrev pub allowed_by : List (Option FlatNet) → Cover → List ℕ → List ℕ → Bool
allowed_by nets c values outs = table_allows (map (row_said nets (fanins_of (length nets) c)) c.lines) (option_map set_entries c.default) values outs

-- what the table of a cover says of these values
abbrev pub says : List (Option FlatNet) → Cover → List ℕ → ℕ → Bool
says nets c values v = allowed_by nets c values (v ∷ [])

pub table_allowed : (nets : List (Option FlatNet)) (f : FlatNet) (c : Cover) (t : FileTable) (value : List ℕ → ℕ) (outs : List ℕ) → IsTableOf nets f c t
    → table_allows t.rows t.default (map value t.inputs) outs ≡ allowed_by nets c (map value (fanin_names nets c)) outs
table_allowed nets f c t value outs is = rw (is.rows, is.default, is.inputs) refl

pub table_says : (nets : List (Option FlatNet)) (f : FlatNet) (c : Cover) (t : FileTable) (value : List ℕ → ℕ) → IsTableOf nets f c t
    → table_holds value t ≡ says nets c (map value (fanin_names nets c)) (value (told_name (Some f)))
table_says nets f c t value is =
    table_allowed nets f c t value (map value t.outputs) is ∙ ap (λ ws. allowed_by nets c (map value (fanin_names nets c)) (map value ws)) is.outputs

-- a valuation of names and an assignment of numbers agree on the nets that can be read, and give them values that they have
pub record AreAlike (net : NetParts) (value : List ℕ → ℕ) (at : ℕ → ℕ) : Type 0 where
  pub same : (k : ℕ) → IsReadable net.nets k → value (name_in (slot net.nets k)) ≡ at k
  pub low : (k : ℕ) → IsReadable net.nets k → is_low net.nets at k ≡ true

module _ (net : NetParts) (formed : WellFormed net) (value : List ℕ → ℕ) (at : ℕ → ℕ) (alike : AreAlike net value at) where
  values_same : (ks : List ℕ) → AllReadable net.nets ks → map value (names_at net.nets ks) ≡ map at ks
  values_same [] all = refl
  values_same (k ∷ ks) all = rw (alike.same k all.0, values_same ks all.1) refl

  lows : (ks : List ℕ) → AllReadable net.nets ks → list_all (is_low net.nets at) ks ≡ true
  lows [] all = refl
  lows (k ∷ ks) all = and_from (is_low net.nets at k) _ (alike.low k all.0) (lows ks all.1)

  at_numbers : (ns : List NetId) → map at (numbers ns) ≡ map (λ (n : NetId). at n.0) ns
  at_numbers [] = refl
  at_numbers (n ∷ ns) = ap (λ vs. at n.0 ∷ vs) (at_numbers ns)

  -- the values of nets by name are their values by number
  pub values_named : (ns : List NetId) → AllReadable net.nets (numbers ns) → map value (names_of net.nets ns) ≡ map (λ (n : NetId). at n.0) ns
  values_named ns all = ap (map value) (names_at-numbers net.nets ns) ∙ (values_same (numbers ns) all ∙ at_numbers ns)

  -- and so are those of one net of each latch
  pub values_latched : (net_of : FlatLatch → NetId) (ls : List FlatLatch) → AllReadable net.nets (numbers (map net_of ls))
      → map value (names_of net.nets (map net_of ls)) ≡ map (λ (l : FlatLatch). at (net_of l).0) ls
  values_latched net_of ls all = values_named (map net_of ls) all ∙ sym (latches_at net.nets net_of at ls)

  -- what the table of a net's cover says by name, the cover allows by number
  pub says_allowed : (k : ℕ) (f : FlatNet) (c : Cover) → slot net.nets k ≡ Some f → f.table ≡ Some c → (v : ℕ)
      → says net.nets c (map value (fanin_names net.nets c)) v ≡ allowed c at v
  says_allowed k f c held e v =
      let fanins = fanins_of (length net.nets) c in
      let can = fanins_readable net formed k f c held e in
      ap (λ vs. says net.nets c vs v) (values_same fanins can)
      ∙ rows_allow net.nets at fanins v c ((formed.nets k f held).cover c e).cubes (reads_fanins net formed k f c held e) (lows fanins can)
