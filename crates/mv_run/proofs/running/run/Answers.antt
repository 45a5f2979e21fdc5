-- How the task ends says all.
use Rattle.mv_task.proofs.Endings.{ends_exact, ends_complete, ends_rose, ends_untouched}
use Rattle.mv_run.proofs.Asked.{run_replaced, run_words, run_begun, run_known}
use Rattle.mv_run.proofs.Traces.{run_traced}
use Rattle.mv_run.proofs.running.run.Goals as goal

pub returns-clause-replaced : goal.returns-clause-replaced
returns-clause-replaced g c = run_replaced _ _ _ _ c.perform.ensures.does

pub returns-clause-traced : goal.returns-clause-traced
returns-clause-traced g c = run_traced _ _ _ _ c.perform.ensures.does

pub returns-clause-words : goal.returns-clause-words
returns-clause-words g c = run_words _ _ _ _ c.perform.ensures.does

pub returns-clause-exact : goal.returns-clause-exact
returns-clause-exact g c = ends_exact _ _ _ _ c.perform.ensures.does

pub returns-clause-complete : goal.returns-clause-complete
returns-clause-complete g c = ends_complete _ _ _ _ c.perform.ensures.does

pub returns-clause-begun : goal.returns-clause-begun
returns-clause-begun g c = run_begun _ _ _ _ c.perform.ensures.does

pub returns-clause-unread : goal.returns-clause-unread
returns-clause-unread g c = λ e. c.perform.ensures.unread (run_words _ _ _ _ c.perform.ensures.does e)

pub returns-clause-read : goal.returns-clause-read
returns-clause-read g c = ends_rose _ _ _ _ c.perform.ensures.does

pub returns-clause-untouched : goal.returns-clause-untouched
returns-clause-untouched g c = ends_untouched _ _ _ _ c.perform.ensures.does

pub returns-clause-known : goal.returns-clause-known
returns-clause-known g c = run_known _ _ _ _ c.perform.ensures.does
