-- What lines of a BLIF file say to the line behind them.
use Rattle.std.specs.Prelude.{ℕ, ◌-◌, Bool, true, false, ◌&&◌, List, [], ◌∷◌, ◌++◌, length, Option, Some, None, if◌then◌else◌}
use Rattle.std.specs.List.{list_all, list_any, flat_map}
use Rattle.mv_lex.specs.declared.lines.LexLine.{LexLine}
use Rattle.mv_line.specs.Words.{behind_first}
use Rattle.mv_blif_line.specs.declared.command.Command.{Command}
use Rattle.mv_blif_line.specs.declared.command.Command.TheVariants.{Inputs, Outputs, Names}
use Rattle.mv_blif_line.specs.declared.row.OpenTable.{OpenTable}
use Rattle.mv_blif_line.specs.Commands.{command_at, is_model, is_end, is_row}
use Rattle.mv_blif_line.specs.Rows.{output_of, value_of}
use Rattle.mv_blif.specs.declared.known.Known.{Known}

-- the names on a line of inputs
abbrev pub inputs_at : Command → List (List ℕ) → List (List ℕ)
inputs_at Inputs words = words
inputs_at _ words = []

-- the inputs that lines name, joined in order
abbrev pub inputs_of : List LexLine → List (List ℕ)
inputs_of ls = flat_map (λ l. inputs_at (command_at l) (behind_first l)) ls

-- the names on a line of outputs
abbrev pub outputs_at : Command → List (List ℕ) → List (List ℕ)
outputs_at Outputs words = words
outputs_at _ words = []

-- the outputs that lines name, joined in order
abbrev pub outputs_of : List LexLine → List (List ℕ)
outputs_of ls = flat_map (λ l. outputs_at (command_at l) (behind_first l)) ls

-- a line begins a table
abbrev pub is_names : Command → Bool
is_names Names = true
is_names _ = false

-- the value of the output on the first of these rows
abbrev pub first_value : List LexLine → Option ℕ
first_value [] = None
first_value (l ∷ rows) = Some (value_of (output_of l.words))

-- the table of a first line with these rows behind it
abbrev pub table_state : LexLine → List LexLine → OpenTable
table_state l rows =
    record {
      ins = length (behind_first l) - 1;
      rows = length rows;
      first = first_value rows;
    }

-- the table that is open behind lines: the last one, where rows alone stand behind its first line
abbrev pub open_table : List LexLine → Option OpenTable
open_table [] = None
open_table (l ∷ ls) =
    if is_names (command_at l) && list_all (λ r. is_row (command_at r)) ls then
    Some (table_state l ls)
    else open_table ls

-- what the lines say
unfoldable pub known : List LexLine → Known
known ls = record {
  begun = list_any (λ l. is_model (command_at l)) ls;
  ended = list_any (λ l. is_end (command_at l)) ls;
  inputs = inputs_of ls;
  outputs = outputs_of ls;
  table = open_table ls;
}
