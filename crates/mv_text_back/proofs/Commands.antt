-- What the lines of a text are, by their first words.
use Rattle.std.proofs.Common.{◌≡◌, Bool, true, false, List, refl}
use Rattle.std.specs.Prelude.{ℕ, codes, if◌then◌else◌}
use Rattle.mv_base.specs.Names.{begins_with}
use Rattle.mv_parse.specs.declared.command.Command.{Command}
use Rattle.mv_parse.specs.declared.command.Command.TheVariants.{Model, Inputs, Outputs, Mv, Table, Latch, Reset, Default, Row, End}
use Rattle.mv_parse.specs.Commands.{command_of}
use Rattle.mv_text_back.proofs.TextModel.{begin_word}

pub command-model : command_of (codes ".model") ≡ Model
unfolding command_of
command-model = refl

pub command-inputs : command_of (codes ".inputs") ≡ Inputs
unfolding command_of
command-inputs = refl

pub command-outputs : command_of (codes ".outputs") ≡ Outputs
unfolding command_of
command-outputs = refl

pub command-mv : command_of (codes ".mv") ≡ Mv
unfolding command_of
command-mv = refl

pub command-latch : command_of (codes ".latch") ≡ Latch
unfolding command_of
command-latch = refl

-- the line that begins a table, or a reset table
abbrev pub begins : Bool → Command
begins resets = if resets then Reset else Table

pub command-begins : (resets : Bool) → command_of (begin_word resets) ≡ begins resets
unfolding command_of
command-begins true = refl
command-begins false = refl

pub command-default : command_of (codes ".default") ≡ Default
unfolding command_of
command-default = refl

pub command-end : command_of (codes ".end") ≡ End
unfolding command_of
command-end = refl

pub command-row : (w : List ℕ) → begins_with 46 w ≡ false → command_of w ≡ Row
unfolding command_of
command-row w e = rw e refl
