-- The instances of a model: each is lawful, line by line.
use Rattle.std.proofs.Common.{◌≡◌, List, [], ◌∷◌, ◌++◌}
use Rattle.std.specs.Prelude.{All}
use Rattle.std.proofs.lemmas.List.Elements.{All-nil, All-cons}
use Rattle.mv_lex.specs.declared.lines.LexLine.{LexLine}
use Rattle.mv_design.specs.Proper.{IsFileInstance}
use Rattle.mv_line.specs.Words.{behind_first, first_word}
use Rattle.mv_instances.specs.Line.{instance_said}
use Rattle.mv_instances.proofs.Lawful.{instance-lawful}
use Rattle.mv_parse.specs.declared.command.Command.{Command}
use Rattle.mv_parse.specs.declared.command.Command.TheVariants.{Instance}
use Rattle.mv_parse.specs.declared.known.OpenModel.{OpenModel}
use Rattle.mv_parse.specs.Commands.{command_at}
use Rattle.mv_parse.specs.Known.{instance_at, instances_of}
use Rattle.mv_parse.specs.Grammar.{inside_faults}
use Rattle.mv_parse_laws.proofs.Said.{said-push}

instance-here : (c : Command) (m : OpenModel) (l : LexLine) → inside_faults c m l ≡ [] → All IsFileInstance (instance_at c l)
instance-here Instance m l none =
    All-cons IsFileInstance (instance_said l.number (behind_first l)) [] (instance-lawful l.number (first_word l) m.instances (behind_first l) none) (All-nil IsFileInstance)
instance-here _ m l none = All-nil IsFileInstance

pub instances-push : (m : OpenModel) (ls : List LexLine) (l : LexLine) → inside_faults (command_at l) m l ≡ [] → All IsFileInstance (instances_of ls)
    → All IsFileInstance (instances_of (ls ++ l ∷ []))
instances-push m ls l none h = said-push IsFileInstance (λ (x : LexLine). instance_at (command_at x) x) ls l h (instance-here (command_at l) m l none)
