-- What a run does, by what the words ask for.
use Rattle.std.specs.Prelude.{◌≡◌, ℕ, Bool, true, false, Option, Some, None, []}
use Rattle.mv_check.specs.Checked.{check_task}
use Rattle.mv_command_line.specs.CommandLine.{Asked, opt, check, work, trace}
use Rattle.mv_format.specs.BlifMv.{blif_mv}
use Rattle.mv_format.specs.Chosen.{format_of}
use Rattle.mv_format.specs.declared.format.FileFormat.{FileFormat}
use Rattle.mv_format.specs.declared.format.FileFormat.TheVariants.{BlifMv, Blif}
use Rattle.mv_format.specs.Formats.{Format}
use Rattle.mv_opt.specs.Optimised.{opt_task, drawn}
use Rattle.mv_rules.specs.declared.terms.Terms.{Terms}
use Rattle.mv_task.specs.Ends.{Task}
use Rattle.mv_task.specs.Lines.{words_line}
use Rattle.mv_task.specs.Sources.{File}
use Rattle.mv_tracing.specs.Traced.{trace_task}

-- the words are refused, with status 1 and its line, and nothing is read
abbrev pub words_task : Task
words_task = record {
  stages = [];
  work = λ contents. record {
    Does = λ noted written. ⊥;
    Notes = λ noted. ⊥;
    Denies = λ written. ⊥;
    Refuses = λ status line. (status ≡ 1) × (line ≡ words_line);
  };
}

-- the terms on which rules are applied, by the options
abbrev pub terms_of : Bool → ℕ → Terms
terms_of free budget = record { free = free; budget = budget }

-- the format of the network files, by whether `--blif` is given
abbrev pub format_asked : Bool → FileFormat
format_asked false = BlifMv
format_asked true = Blif

abbrev pub format_by : Bool → Format
format_by blif = format_of (format_asked blif)

-- the task that is asked for: that a script optimises the network of a file or one that is drawn,
-- or that a certificate is checked, on the terms that the words say; or none
abbrev pub task_asked : Option Asked → Task
task_asked (Some (opt f)) =
    opt_task (format_by f.blif) (terms_of f.free f.budget) (File f.net) f.other
task_asked (Some (check f)) = check_task (format_by f.blif) f.free f.net f.other
task_asked (Some (work d)) =
    opt_task blif_mv (terms_of d.free d.budget) (drawn d.size d.seed) d.script
task_asked (Some (trace n)) = trace_task blif_mv n.net n.other
task_asked None = words_task
