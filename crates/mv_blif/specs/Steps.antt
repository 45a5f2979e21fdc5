-- What a line adds to what the lines before say. The reader computes this; that it is what the
-- longer list of lines says is proved of it.
use Rattle.std.specs.Prelude.{true, List, [], ◌∷◌, ◌++◌, Some, None, option_map}
use Rattle.mv_lex.specs.declared.lines.LexLine.{LexLine}
use Rattle.mv_line.specs.Latches.{latch_of}
use Rattle.mv_line.specs.Words.{behind_first}
use Rattle.mv_blif_line.specs.declared.command.Command.{Command}
use Rattle.mv_blif_line.specs.declared.command.Command.TheVariants.{Model, Inputs, Outputs, Names, Latch, Row, End, Unknown}
use Rattle.mv_blif_line.specs.Latches.{settings_at, resets_at}
use Rattle.mv_blif_line.specs.Rows.{new_table, row_seen}
use Rattle.mv_blif_line.specs.Tables.{table_of}
use Rattle.mv_blif.specs.declared.known.Known.{Known}
use Rattle.mv_blif.specs.declared.contents.Contents.{Contents}
use Rattle.mv_blif.specs.Meaning.{front_rows, tables_of, latches_of, resets_of, settings_said}

-- what is known behind a line: every line but a row closes the open table
abbrev pub line_step : Command → LexLine → Known → Known
line_step Model l k = record k { begun = true; table = None }
line_step Inputs l k = record k { inputs = k.inputs ++ behind_first l; table = None }
line_step Outputs l k = record k { outputs = k.outputs ++ behind_first l; table = None }
line_step Names l k = record k { table = Some (new_table (behind_first l)) }
line_step Latch l k = record k { table = None }
line_step Row l k = record k { table = option_map (row_seen l.words) k.table }
line_step End l k = record k { ended = true; table = None }
line_step Unknown l k = record k { table = None }

-- what these lines say besides ports
abbrev pub contents_of : List LexLine → Contents
contents_of ls =
    record {
      tables = tables_of ls;
      latches = latches_of ls;
      resets = resets_of ls;
      settings = settings_said ls;
    }

-- that of earlier lines and of later ones
abbrev pub joined : Contents → Contents → Contents
joined a b =
    record {
      tables = a.tables ++ b.tables;
      latches = a.latches ++ b.latches;
      resets = a.resets ++ b.resets;
      settings = a.settings ++ b.settings;
    }

-- that of the lines before, with what a line adds, where these lines stand behind it
abbrev pub with_line : Command → LexLine → List LexLine → Contents → Contents
with_line Names l ls k = record k { tables = k.tables ++ table_of l (front_rows ls) ∷ [] }
with_line Latch l ls k =
    record k {
      latches = k.latches ++ latch_of l ∷ [];
      resets = k.resets ++ resets_at l;
      settings = k.settings ++ settings_at l ∷ [];
    }
with_line _ l ls k = k
