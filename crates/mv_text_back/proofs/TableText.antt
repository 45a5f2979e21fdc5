-- The lines of a written table or reset table say the table, and its values have no fault.
use Rattle.std.proofs.Common.{◌≡◌, ◌∙◌, ℕ, ◌+◌, true, false, not, List, [], ◌∷◌, ◌++◌, length, map, refl, sym, ap, eq-eqb, length-append}
use Rattle.std.specs.Prelude.{Option, Some, None, option_map, codes}
use Rattle.std.specs.List.{AllByRecursion, list_all}
use Rattle.std.proofs.lemmas.Bool.{and_from, or_from, false≢true, false_from_ne_true, not_from_false}
use Rattle.std.proofs.lemmas.List.{length-map}
use Rattle.std.proofs.lemmas.List.Folds.{list_all-map}
use Rattle.mv_base.specs.Names.{begins_with, same_word, is_net_name}
use Rattle.mv_base.proofs.NameLemmas.{same_word_is}
use Rattle.mv_base.proofs.Lists.{everywhere}
use Rattle.mv_lex.specs.declared.lines.LexLine.{LexLine}
use Rattle.mv_design.specs.declared.table.Entry.{Entry}
use Rattle.mv_design.specs.declared.table.Row.{Row}
use Rattle.mv_design.specs.declared.design.Decl.{Decl}
use Rattle.mv_cover.specs.declared.line.Line.{Line}
use Rattle.mv_cover.specs.declared.cover.Cover.{Cover}
use Rattle.mv_cover.specs.Lines.{IsOutput}
use Rattle.mv_table.specs.Tables.{says_default, default_of, rows_of, lines_values_faults, table_of, table_faults}
use Rattle.mv_line.specs.Words.{first_of}
use Rattle.mv_net.specs.declared.parts.FlatNet.{FlatNet}
use Rattle.mv_net.specs.Nets.{slot, spelled_in, spelled_values}
use Rattle.mv_net.specs.Formed.{AllLines}
use Rattle.mv_text.specs.Text.{fanins_of, fanin_word, set_in, entry_word, line_words, default_words, told_name}
use Rattle.mv_text_back.proofs.TextModel.{set_entries, row_said, fanin_names, IsTableOf, is_reset_net}
use Rattle.mv_text_back.proofs.Entries.{entry-stop}
use Rattle.mv_text_back.proofs.Commands.{command-default, command-row}
use Rattle.mv_text_back.proofs.Columns.{ins-written, outs-written}
use Rattle.mv_text_back.proofs.TableLines.{is_row_line, head_line}
use Rattle.mv_text_back.proofs.Rows.{IsColumn, outs-none, outs-are, name_at, IsFanin, row-none, row-is}
use Rattle.mv_text_back.proofs.Kept.{keeps}
use Rattle.mv_lines_back.specs.TextWords.{lines_from}

-- a line of a row is no default
not_word : (w v : List ℕ) → begins_with 46 v ≡ true → begins_with 46 w ≡ false → same_word w v ≡ false
not_word w v y n = false_from_ne_true (same_word w v) (λ e. false≢true (sym n ∙ (ap (begins_with 46) (same_word_is w v e) ∙ y)))

no_default : (n : ℕ) (ws : List (List ℕ)) → begins_with 46 (first_of ws) ≡ false → says_default (record { number = n; words = ws }) ≡ false
unfolding says_default
no_default n [] e = refl
no_default n (w ∷ ws) e = or_from _ _ (not_word w (codes ".default") refl e) (not_word w (codes ".def") refl e)

default_is : (n : ℕ) (w : List ℕ) → says_default (record { number = n; words = codes ".default" ∷ w ∷ [] }) ≡ true
unfolding says_default
default_is n w = refl

-- what lines behind the first line of a table say
record Say (ds : List Decl) (ins outs : List (List ℕ)) (lines : List LexLine) (all : List Row) (other : Option (List Entry)) : Type 0 where
  keep : list_all keeps lines ≡ true
  rows : rows_of ds ins outs lines ≡ all
  default : default_of ds ins outs lines ≡ other
  faults : lines_values_faults ds ins outs lines ≡ []

-- the net of a table, among nets that these declarations name
pub record IsTableNet (nets : List (Option FlatNet)) (ds : List Decl) (f : FlatNet) (c : Cover) : Type 0 where
  pub fanins : AllByRecursion (IsFanin nets ds) (fanins_of (length nets) c)
  pub output : IsColumn ds (told_name (Some f)) f.values (spelled_values f.values f.value_names)
  pub lines : AllLines nets f.values c.lines
  pub default : (out : ℕ) → c.default ≡ Some out → IsOutput f.values out
  pub lawful : list_all is_net_name (fanin_names nets c) ≡ true
  pub own : is_net_name (told_name (Some f)) ≡ true

module _ (nets : List (Option FlatNet)) (ds : List Decl) (name : List ℕ) (values : ℕ) (names : List (List ℕ)) (output : IsColumn ds name values names) where
  -- the first word of a row doesn't begin with a full stop
  row_begins : (ms : List ℕ) (l : Line) → AllByRecursion (IsFanin nets ds) ms → begins_with 46 (first_of (line_words nets names ms l)) ≡ false
  row_begins [] l each = entry-stop names l.out output.spelled
  row_begins (m ∷ ms) l each = entry-stop (spelled_in (slot nets m)) (set_in nets l.cube m) each.0.column.spelled

  row_long : (ms : List ℕ) (l : Line) → length (line_words nets names ms l) ≡ length (map (name_at nets ds) ms) + 1
  row_long ms l =
      length-append (map (fanin_word nets l.cube) ms) (entry_word names l.out ∷ []) ∙ ap (λ k. k + 1) (length-map ms (fanin_word nets l.cube) ∙ sym (length-map ms (name_at nets ds)))

  pub are_rows : (ms : List ℕ) (ls : List Line) → AllByRecursion (IsFanin nets ds) ms → list_all (is_row_line (length (map (name_at nets ds) ms) + 1)) (map (line_words nets names ms) ls) ≡ true
  are_rows ms ls each =
      let count = length (map (name_at nets ds) ms) + 1 in
      list_all-map (is_row_line count) (line_words nets names ms) ls
      ∙ everywhere (λ l. is_row_line count (line_words nets names ms l)) (λ l. and_from (not (begins_with 46 (first_of (line_words nets names ms l)))) _ (not_from_false _ (row_begins ms l each)) (eq-eqb _ count (row_long ms l))) ls

  rows_say : (n : ℕ) (ms : List ℕ) (ls : List Line) → AllByRecursion (IsFanin nets ds) ms → AllLines nets values ls → Say ds (map (name_at nets ds) ms) (name ∷ []) (lines_from n (map (line_words nets names ms) ls)) (map (row_said nets ms) ls) None
  rows_say n ms [] each all = record { keep = refl; rows = refl; default = refl; faults = refl }
  rows_say n ms (l ∷ ls) each all =
      let rest = rows_say (n + 1) ms ls each all.2 in
      let row = no_default n (line_words nets names ms l) (row_begins ms l each) in
      record {
        keep = rw (command-row (first_of (line_words nets names ms l)) (row_begins ms l each)) rest.keep;
        rows = rw (row, row-is nets ds ms name values names l each output all.0 all.1) (ap (λ rs. row_said nets ms l ∷ rs) rest.rows);
        default = rw (row, rest.default) refl;
        faults = rw (row, row-none nets ds n ms name values names l each output all.0 all.1) rest.faults;
      }

  behind_say : (n : ℕ) (ms : List ℕ) (default : Option ℕ) (ls : List Line) → AllByRecursion (IsFanin nets ds) ms → AllLines nets values ls → ((out : ℕ) → default ≡ Some out → IsOutput values out) → Say ds (map (name_at nets ds) ms) (name ∷ []) (lines_from n (default_words names default ++ map (line_words nets names ms) ls)) (map (row_said nets ms) ls) (option_map set_entries default)
  behind_say n ms None ls each all outs = rows_say n ms ls each all
  behind_say n ms (Some out) ls each all outs =
      let rest = rows_say (n + 1) ms ls each all in
      let is = default_is n (entry_word names out) in
      let ins = map (name_at nets ds) ms in
      record {
        keep = rw command-default rest.keep;
        rows = rw is rest.rows;
        default = rw (is, rest.default, outs-are ds ins name values names out output (outs out refl)) refl;
        faults = rw (is, outs-none n ds ins name values names out output (outs out refl)) rest.faults;
      }

-- the lines of a net's table behind its first
abbrev pub kept_words : List (Option FlatNet) → FlatNet → Cover → List (List (List ℕ))
kept_words nets f c =
    default_words (spelled_values f.values f.value_names) c.default ++ map (line_words nets (spelled_values f.values f.value_names) (fanins_of (length nets) c)) c.lines

-- they say its table
pub record SayTable (nets : List (Option FlatNet)) (ds : List Decl) (f : FlatNet) (c : Cover) (head : LexLine) (kept : List LexLine) : Type 0 where
  pub keep : list_all keeps kept ≡ true
  pub table : IsTableOf nets f c (table_of ds head kept)
  pub faults : table_faults ds head kept ≡ []

pub table-said : (nets : List (Option FlatNet)) (ds : List Decl) (f : FlatNet) (c : Cover) (n m : ℕ) → IsTableNet nets ds f c
    → SayTable nets ds f c (head_line (is_reset_net f) n (fanin_names nets c) (told_name (Some f))) (lines_from m (kept_words nets f c))
unfolding table_of table_faults
table-said nets ds f c n m is =
    let names = fanin_names nets c in
    let ins = ins-written names (told_name (Some f)) is.lawful in
    let outs = outs-written names (told_name (Some f)) is.lawful in
    let say = behind_say nets ds (told_name (Some f)) f.values (spelled_values f.values f.value_names) is.output m (fanins_of (length nets) c) c.default c.lines is.fanins is.lines is.default in
    record {
      keep = say.keep;
      table = record {
        inputs = ins;
        outputs = outs;
        rows = rw (ins, outs) say.rows;
        default = rw (ins, outs) say.default;
      };
      faults = rw (ins, outs) say.faults;
    }
