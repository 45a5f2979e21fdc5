-- How words are answered.
use Rattle.std.specs.Prelude.{◌≡◌, Option, Some, None, Result, MatchResult}
use Rattle.mv_command_line.specs.CommandLine.{Asked, opt, check, work, trace, files_with, draw_with, names_with}
use Rattle.mv_command_line.specs.declared.task.Task.{Task}
use Rattle.mv_command_line.specs.declared.task.Task.TheVariants as task
use Rattle.mv_command_line.specs.declared.task.WordsStop.{WordsStop}
use Rattle.mv_command_line.specs.declared.task.WordsStop.TheVariants.{Refused, Memory}

-- words are refused only where they ask for nothing; want of memory says nothing of them
abbrev pub IsRefusedBy : {X : Type 0} → Option X → WordsStop → Type 0
IsRefusedBy asked Refused = asked ≡ None
IsRefusedBy asked Memory = Unit {0}

-- the task as a value of the definition
abbrev pub asked_of : Task → Asked
asked_of (task.Opt net script blif options) =
    opt (files_with net.now script.now blif options.free options.budget)
asked_of (task.Check net certificate blif options) =
    check (files_with net.now certificate.now blif options.free options.budget)
asked_of (task.Work size seed script options) =
    work (draw_with size seed script.now options.free options.budget)
asked_of (task.Trace net run) = trace (names_with net.now run.now)

-- exactly the task that is asked for
abbrev pub Answers : Option Asked → Result Task WordsStop → Type 0
Answers asked result = MatchResult result (λ t. asked ≡ Some (asked_of t)) (IsRefusedBy asked)
