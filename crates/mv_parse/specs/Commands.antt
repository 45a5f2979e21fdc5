-- What a line of a network file is, by its first word.
use Rattle.std.specs.Prelude.{ℕ, Bool, true, false, not, ◌||◌, List, codes, if◌then◌else◌}
use Rattle.mv_base.specs.Names.{same_word, begins_with}
use Rattle.mv_lex.specs.declared.lines.LexLine.{LexLine}
use Rattle.mv_line.specs.Words.{first_word}
use Rattle.mv_table.specs.Tables.{is_default_word}
use Rattle.mv_parse.specs.declared.command.Command.{Command}
use Rattle.mv_parse.specs.declared.command.Command.TheVariants.{Model, Inputs, Outputs, Mv, Table, Latch, Reset, Default, Row, End, Root, Instance, Unknown}

-- the words that say that a line begins a table
abbrev pub is_table_word : List ℕ → Bool
is_table_word w = same_word w (codes ".table") || same_word w (codes ".names")

-- the words that say that a line begins a reset table
abbrev pub is_reset_word : List ℕ → Bool
is_reset_word w = same_word w (codes ".reset") || same_word w (codes ".r")

-- what a line is, by its first word: one that doesn't begin with a full stop begins a row
unfoldable pub command_of : List ℕ → Command
command_of w =
    if not (begins_with 46 w) then Row
    else if same_word w (codes ".model") then Model
    else if same_word w (codes ".inputs") then Inputs
    else if same_word w (codes ".outputs") then Outputs
    else if same_word w (codes ".mv") then Mv
    else if is_table_word w then Table
    else if is_default_word w then Default
    else if same_word w (codes ".end") then End
    else if same_word w (codes ".latch") then Latch
    else if is_reset_word w then Reset
    else if same_word w (codes ".root") then Root
    else if same_word w (codes ".subckt") then Instance
    else Unknown

-- what a line is
abbrev pub command_at : LexLine → Command
command_at l = command_of (first_word l)

-- rows and defaults leave a table open
abbrev pub keeps_table : Command → Bool
keeps_table Default = true
keeps_table Row = true
keeps_table _ = false

-- the line is a row
abbrev pub is_row : Command → Bool
is_row Row = true
is_row _ = false

-- the line is a default
abbrev pub is_default : Command → Bool
is_default Default = true
is_default _ = false

-- the line begins a table or a reset table
abbrev pub is_table : Command → Bool
is_table Table = true
is_table Reset = true
is_table _ = false

-- the line begins a model
abbrev pub is_model : Command → Bool
is_model Model = true
is_model _ = false

-- the line ends its model
abbrev pub is_end : Command → Bool
is_end End = true
is_end _ = false

-- the line names the root
abbrev pub is_root : Command → Bool
is_root Root = true
is_root _ = false
