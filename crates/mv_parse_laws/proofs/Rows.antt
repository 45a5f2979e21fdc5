-- A table whose rows and default have an entry for each column.
use Rattle.std.proofs.Common.{◌≡◌, ℕ, ◌+◌, ◌<◌, true, false, List, [], ◌∷◌, length, drop, Option, Some, None, subst, arith}
use Rattle.std.specs.Prelude.{All}
use Rattle.std.specs.List.{list_all}
use Rattle.std.specs.Option.{option_or}
use Rattle.std.proofs.lemmas.Bool.{cond_both}
use Rattle.std.proofs.lemmas.List.{length-drop}
use Rattle.std.proofs.lemmas.List.Elements.{All-nil, All-cons, All-head, All-tail, All-append}
use Rattle.mv_base.specs.Names.{is_net_name}
use Rattle.mv_lex.specs.declared.lines.LexLine.{LexLine}
use Rattle.mv_design.specs.declared.table.Entry.{Entry}
use Rattle.mv_design.specs.declared.table.FileTable.{FileTable}
use Rattle.mv_design.specs.declared.design.Decl.{Decl}
use Rattle.mv_table.specs.Columns.{ins_of, outs_of}
use Rattle.mv_table.specs.Entries.{outs_said}
use Rattle.mv_line.specs.Words.{behind_first}
use Rattle.mv_table.specs.Tables.{says_default, row_of_words, rows_at, rows_of, default_at, default_of, table_of}
use Rattle.mv_parse.specs.declared.command.Command.{Command}
use Rattle.mv_parse.specs.declared.command.Command.TheVariants.{Reset}
use Rattle.mv_parse.specs.Commands.{command_at}
use Rattle.mv_design.specs.Proper.{FitOutputs, IsFileRow, IsFileTable, IsFileReset}
use Rattle.mv_parse_laws.proofs.Entries.{ins-fit, outs-fit}

-- a row has an entry for each of so many inputs and outputs, a default one for each output
pub record IsEntryLine (ins outs : ℕ) (l : LexLine) : Type 0 where
  pub row : says_default l ≡ false → length l.words ≡ ins + outs
  pub default : says_default l ≡ true → length (behind_first l) ≡ outs

-- the words behind the command that begins a table name lawful columns, some outputs among them, and one if it is a reset table
pub record HasColumns (c : Command) (words : List (List ℕ)) : Type 0 where
  pub inputs : list_all is_net_name (ins_of words) ≡ true
  pub outputs : list_all is_net_name (outs_of words) ≡ true
  pub some : 0 < length (outs_of words)
  pub single : c ≡ Reset → length (outs_of words) ≡ 1

abbrev pub EntryLine : List (List ℕ) → LexLine → Type 0
EntryLine words l = IsEntryLine (length (ins_of words)) (length (outs_of words)) l

-- the first line of a table, and its rows and defaults
pub record IsTableAt (head : LexLine) (rows : List LexLine) : Type 0 where
  pub columns : HasColumns (command_at head) (behind_first head)
  pub entries : All (EntryLine (behind_first head)) rows

module _ (ds : List Decl) (t : FileTable) where
  row-fits : (words : List (List ℕ)) → length words ≡ length t.inputs + length t.outputs → IsFileRow ds t (row_of_words ds t.inputs t.outputs words)
  row-fits words size =
      let behind : length (drop (length t.inputs) words) ≡ length t.outputs = simp length-drop (omega arith) in
      record {
        sets = ins-fit ds t.inputs words (omega arith);
        outs = outs-fit ds t.inputs t.outputs (drop (length t.inputs) words) (omega arith);
      }

  row-here : (l : LexLine) → IsEntryLine (length t.inputs) (length t.outputs) l → All (IsFileRow ds t) (rows_at ds t.inputs t.outputs l)
  row-here l h =
      cond_both (says_default l) [] (row_of_words ds t.inputs t.outputs l.words ∷ []) (All (IsFileRow ds t))
      (λ y. All-nil (IsFileRow ds t))
      (λ n. All-cons (IsFileRow ds t) (row_of_words ds t.inputs t.outputs l.words) [] (row-fits l.words (h.row n)) (All-nil (IsFileRow ds t)))

  rows-fit : (lines : List LexLine) → All (IsEntryLine (length t.inputs) (length t.outputs)) lines → All (IsFileRow ds t) (rows_of ds t.inputs t.outputs lines)
  rows-fit [] h = All-nil (IsFileRow ds t)
  rows-fit (l ∷ lines) h =
      let E : LexLine → Type 0 = IsEntryLine (length t.inputs) (length t.outputs) in
      All-append (IsFileRow ds t) (rows_at ds t.inputs t.outputs l) (rows_of ds t.inputs t.outputs lines) (row-here l (All-head E l lines h)) (rows-fit lines (All-tail E l lines h))

  abbrev IfFits : Option (List Entry) → Type 0
  IfFits None = Unit {0}
  IfFits (Some entries) = FitOutputs ds t.inputs t.outputs entries

  either-fits : (o p : Option (List Entry)) → IfFits o → IfFits p → IfFits (option_or o p)
  either-fits None p h i = i
  either-fits (Some entries) p h i = h

  default-here : (l : LexLine) → IsEntryLine (length t.inputs) (length t.outputs) l → IfFits (default_at ds t.inputs t.outputs l)
  default-here l h =
      cond_both (says_default l) (Some (outs_said ds t.inputs t.outputs (behind_first l))) None IfFits
      (λ y. outs-fit ds t.inputs t.outputs (behind_first l) (let e = h.default y in omega arith))
      (λ n. tt)

  default-fits : (lines : List LexLine) → All (IsEntryLine (length t.inputs) (length t.outputs)) lines → IfFits (default_of ds t.inputs t.outputs lines)
  default-fits [] h = tt
  default-fits (l ∷ lines) h =
      let E : LexLine → Type 0 = IsEntryLine (length t.inputs) (length t.outputs) in
      either-fits (default_of ds t.inputs t.outputs lines) (default_at ds t.inputs t.outputs l) (default-fits lines (All-tail E l lines h)) (default-here l (All-head E l lines h))

-- the table that these lines say
pub table-fits : (ds : List Decl) (head : LexLine) (lines : List LexLine) → IsTableAt head lines → IsFileTable ds (table_of ds head lines)
unfolding table_of
table-fits ds head lines h =
    let t : FileTable = record {
      line = head.number;
      inputs = ins_of (behind_first head);
      outputs = outs_of (behind_first head);
      rows = rows_of ds (ins_of (behind_first head)) (outs_of (behind_first head)) lines;
      default = default_of ds (ins_of (behind_first head)) (outs_of (behind_first head)) lines;
    } in
    record {
      inputs = h.columns.inputs;
      outputs = h.columns.outputs;
      some = h.columns.some;
      rows = rows-fit ds t lines h.entries;
      default = λ entries e. subst (IfFits ds t) e (default-fits ds t lines h.entries);
    }

-- the reset table that they say, if the first of them begins one
pub reset-fits : (ds : List Decl) (head : LexLine) (lines : List LexLine) → command_at head ≡ Reset → IsTableAt head lines
    → IsFileReset ds (table_of ds head lines)
unfolding table_of
reset-fits ds head lines e h = record { table = table-fits ds head lines h; single = h.columns.single e }
