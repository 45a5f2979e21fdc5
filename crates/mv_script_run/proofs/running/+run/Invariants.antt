-- What was done so far, and what is left: the items behind, the rounds to come.
use Rattle.std.proofs.Common.{◌≡◌, ◌≤◌, true}
use Rattle.mv_net.specs.Nets.{literals_in}
use Rattle.mv_script.specs.declared.script.Script.{size-Script}
use Rattle.mv_script.specs.Commands.{are_lawful}
use Rattle.mv_script.specs.Scripts.{items_of}
use Rattle.mv_pass.specs.Courses.{Rounds}
use Rattle.mv_script_run.specs.Runs.{Runs}
use Rattle.mv_pass.proofs.Coming.{Came}
use Rattle.mv_script_run.proofs.Rounds.{HasGained}
use Rattle.mv_script_run.proofs.Toward.{Toward}
use Rattle.mv_script_run.proofs.running.+run.Given as goal

abbrev pub invariant-run_script-loop-items : goal.invariant-run_script-loop-items
invariant-run_script-loop-items g l = record {
  came : Came l.terms.free (Toward l.terms (items_of l.fn.script) (items_of l.items)) l.fn.net l.net (g.J.Journal.state l.fn.journal) (g.J.Journal.state l.journal);
  lawful : are_lawful (items_of l.items) ≡ true;
  no_deeper : size-Script l.items ≤ size-Script l.fn.script;
}

abbrev pub invariant-run_repeat-loop-round : goal.invariant-run_repeat-loop-round
invariant-run_repeat-loop-round g l =
    Came l.terms.free (Rounds l._round (Runs l.terms (items_of l.inside))) l.fn.net l.net (g.J.Journal.state l.fn.journal) (g.J.Journal.state l.journal)

abbrev pub invariant-run_better-rounds : goal.invariant-run_better-rounds
invariant-run_better-rounds g l =
    Came l.terms.free (HasGained (Runs l.terms (items_of l.inside))) l.fn.net l.net (g.J.Journal.state l.fn.journal) (g.J.Journal.state l.journal)

abbrev pub decreases-run_better-rounds : goal.decreases-run_better-rounds
decreases-run_better-rounds g l = literals_in l.net.nets
