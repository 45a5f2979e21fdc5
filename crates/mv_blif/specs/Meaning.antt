-- What the lines of a BLIF file say: a design of one model, and what stands on the lines of its
-- latches besides their nets.
use Rattle.std.specs.Prelude.{ℕ, List, [], ◌∷◌, ◌++◌, if◌then◌else◌}
use Rattle.std.specs.List.{flat_map}
use Rattle.mv_lex.specs.declared.lines.LexLine.{LexLine}
use Rattle.mv_design.specs.declared.table.FileTable.{FileTable}
use Rattle.mv_design.specs.declared.design.FileLatch.{FileLatch}
use Rattle.mv_design.specs.declared.design.FileModel.{FileModel}
use Rattle.mv_line.specs.Latches.{latch_of}
use Rattle.mv_line.specs.Words.{behind_first, first_of}
use Rattle.mv_blif_line.specs.declared.command.Command.{Command}
use Rattle.mv_blif_line.specs.declared.command.Command.TheVariants.{Names, Latch}
use Rattle.mv_latch.specs.declared.latch.BlifLatch.{BlifLatch}
use Rattle.mv_blif_line.specs.Commands.{command_at, is_row}
use Rattle.mv_blif_line.specs.Latches.{settings_at, resets_at}
use Rattle.mv_blif_line.specs.Tables.{table_of}
use Rattle.mv_blif.specs.declared.design.BlifDesign.{BlifDesign}
use Rattle.mv_blif.specs.Known.{inputs_of, outputs_of}

-- a table has the rows that come right behind its first line
abbrev pub front_rows : List LexLine → List LexLine
front_rows [] = []
front_rows (l ∷ ls) = if is_row (command_at l) then l ∷ front_rows ls else []

-- the table that a line begins, if it begins one
abbrev pub tables_at : Command → LexLine → List LexLine → List FileTable
tables_at Names l ls = table_of l (front_rows ls) ∷ []
tables_at _ l ls = []

-- the tables of these lines
abbrev pub tables_of : List LexLine → List FileTable
tables_of [] = []
tables_of (l ∷ ls) = tables_at (command_at l) l ls ++ tables_of ls

-- what the line of a latch says, and nothing of another line
abbrev pub at_latch : {X : Type 0} → (LexLine → List X) → Command → LexLine → List X
at_latch said Latch l = said l
at_latch said _ l = []

-- what the lines of latches say
abbrev pub said_of : {X : Type 0} → (LexLine → List X) → List LexLine → List X
said_of said ls = flat_map (λ l. at_latch said (command_at l) l) ls

-- the latches of these lines
abbrev pub latches_of : List LexLine → List FileLatch
latches_of ls = said_of (λ l. latch_of l ∷ []) ls

-- their reset tables
abbrev pub resets_of : List LexLine → List FileTable
resets_of ls = said_of resets_at ls

-- their TYPE, CONTROL and INIT
abbrev pub settings_said : List LexLine → List BlifLatch
settings_said ls = said_of (λ l. settings_at l ∷ []) ls

-- the name of the model: the file begins with `.model NAME`
abbrev pub name_of : List LexLine → List ℕ
name_of [] = []
name_of (l ∷ ls) = first_of (behind_first l)

-- the model of these lines
abbrev pub blif_model : List LexLine → FileModel
blif_model ls = record {
  name = name_of ls;
  inputs = inputs_of ls;
  outputs = outputs_of ls;
  decls = [];
  tables = tables_of ls;
  latches = latches_of ls;
  resets = resets_of ls;
  instances = [];
}

-- what lines say
unfoldable pub blif_of : List LexLine → BlifDesign
blif_of ls =
    record { design = record { root = 0; models = blif_model ls ∷ [] }; latches = settings_said ls }
