-- A table as its lines say it: its first line, and the rows and the default behind it.
use Rattle.std.specs.Prelude.{ℕ, Bool, false, ◌||◌, List, [], ◌∷◌, ◌++◌, length, drop, codes, Option, Some, None, if◌then◌else◌}
use Rattle.std.specs.List.{flat_map}
use Rattle.std.specs.Option.{option_or}
use Rattle.mv_base.specs.Names.{same_word}
use Rattle.mv_lex.specs.declared.lines.LexLine.{LexLine}
use Rattle.mv_design.specs.declared.table.Entry.{Entry}
use Rattle.mv_design.specs.declared.table.Row.{Row}
use Rattle.mv_design.specs.declared.table.FileTable.{FileTable}
use Rattle.mv_design.specs.declared.design.Decl.{Decl}
use Rattle.mv_fault.specs.declared.fault.ParseFault.{ParseFault}
use Rattle.mv_line.specs.Words.{behind_first}
use Rattle.mv_table.specs.Columns.{ins_of, outs_of}
use Rattle.mv_table.specs.Entries.{ins_faults, ins_said, outs_faults, outs_said}

-- the words that say that a line is a default
abbrev pub is_default_word : List ℕ → Bool
is_default_word w = same_word w (codes ".default") || same_word w (codes ".def")

-- the first of a line's words says that it is a default
abbrev pub begins_default : List (List ℕ) → Bool
begins_default [] = false
begins_default (w ∷ words) = is_default_word w

-- the line is a default
unfoldable pub says_default : LexLine → Bool
says_default l = begins_default l.words

-- a row: one entry a column, inputs first
abbrev pub row_of_words : List Decl → List (List ℕ) → List (List ℕ) → List (List ℕ) → Row
row_of_words ds ins outs words =
    record { ins = ins_said ds ins words; outs = outs_said ds ins outs (drop (length ins) words) }

-- the faults of the entries of a row
abbrev pub entries_faults : ℕ → List Decl → List (List ℕ) → List (List ℕ) → List (List ℕ)
    → List ParseFault
entries_faults n ds ins outs words = ins_faults n ds ins words
    ++ outs_faults n ds ins outs (drop (length ins) words)

-- the row of a line that is a row or a default
abbrev pub rows_at : List Decl → List (List ℕ) → List (List ℕ) → LexLine → List Row
rows_at ds ins outs l = if says_default l then [] else row_of_words ds ins outs l.words ∷ []

-- the rows of these lines, all of which are rows or defaults
abbrev pub rows_of : List Decl → List (List ℕ) → List (List ℕ) → List LexLine → List Row
rows_of ds ins outs lines = flat_map (rows_at ds ins outs) lines

-- the default of a line that is a row or a default
abbrev pub default_at : List Decl → List (List ℕ) → List (List ℕ) → LexLine → Option (List Entry)
default_at ds ins outs l = if says_default l then Some (outs_said ds ins outs (behind_first l))
    else None

-- the last default of these lines, if there is one
abbrev pub default_of : List Decl → List (List ℕ) → List (List ℕ) → List LexLine
    → Option (List Entry)
default_of ds ins outs [] = None
default_of ds ins outs (l ∷ lines) =
    option_or (default_of ds ins outs lines) (default_at ds ins outs l)

-- the faults of the values of a row or a default, from left to right
abbrev pub line_values_faults : List Decl → List (List ℕ) → List (List ℕ) → LexLine
    → List ParseFault
line_values_faults ds ins outs l =
    if says_default l then outs_faults l.number ds ins outs (behind_first l)
    else entries_faults l.number ds ins outs l.words

-- the faults of the values of these lines, line by line
abbrev pub lines_values_faults : List Decl → List (List ℕ) → List (List ℕ) → List LexLine
    → List ParseFault
lines_values_faults ds ins outs lines = flat_map (line_values_faults ds ins outs) lines

-- the table that its first line says, with the rows and the default behind it
unfoldable pub table_of : List Decl → LexLine → List LexLine → FileTable
table_of ds head lines = record {
  line = head.number;
  inputs = ins_of (behind_first head);
  outputs = outs_of (behind_first head);
  rows = rows_of ds (ins_of (behind_first head)) (outs_of (behind_first head)) lines;
  default = default_of ds (ins_of (behind_first head)) (outs_of (behind_first head)) lines;
}

-- the faults of the values of a table
unfoldable pub table_faults : List Decl → LexLine → List LexLine → List ParseFault
table_faults ds head lines =
    lines_values_faults ds (ins_of (behind_first head)) (outs_of (behind_first head)) lines
