-- What a line of a BLIF file is, by its first word.
use Rattle.std.specs.Prelude.{ℕ, Bool, true, false, not, List, codes, if◌then◌else◌}
use Rattle.mv_base.specs.Names.{same_word, begins_with}
use Rattle.mv_lex.specs.declared.lines.LexLine.{LexLine}
use Rattle.mv_line.specs.Words.{first_word}
use Rattle.mv_blif_line.specs.declared.command.Command.{Command}
use Rattle.mv_blif_line.specs.declared.command.Command.TheVariants.{Model, Inputs, Outputs, Names, Latch, Row, End, Unknown}

-- what a line is, by its first word: one that doesn't begin with a full stop is a row
unfoldable pub command_of : List ℕ → Command
command_of w =
    if not (begins_with 46 w) then Row
    else if same_word w (codes ".model") then Model
    else if same_word w (codes ".inputs") then Inputs
    else if same_word w (codes ".outputs") then Outputs
    else if same_word w (codes ".names") then Names
    else if same_word w (codes ".latch") then Latch
    else if same_word w (codes ".end") then End
    else Unknown

-- what a line is
abbrev pub command_at : LexLine → Command
command_at l = command_of (first_word l)

-- the line begins the model
abbrev pub is_model : Command → Bool
is_model Model = true
is_model _ = false

-- the line ends the model
abbrev pub is_end : Command → Bool
is_end End = true
is_end _ = false

-- the line is a row
abbrev pub is_row : Command → Bool
is_row Row = true
is_row _ = false
