-- The beginning, the step and the end, as far as they came.
use Rattle.std.proofs.Common.{false, refl}
use Rattle.mv_base.proofs.Meanings.{Refines-refl, Refines-from_same}
use Rattle.mv_entry.specs.declared.note.Command.TheVariants.{Collapse}
use Rattle.mv_pass.specs.Courses.{Perhaps, Still}
use Rattle.mv_pass.proofs.Passed.{unstarted, unbegun, halted, ended}
use Rattle.mv_collapse.specs.Collapses.{CollapsesNet}
use Rattle.mv_collapse.proofs.Reasons.{begun_so}
use Rattle.mv_collapse.proofs.collapsing.collapse.Goals as goal

pub returns-in-Err : goal.returns-in-Err
returns-in-Err g c = record {
  passes = unstarted c.args.terms.free (CollapsesNet c.args.terms.free c.args.name.now) (Perhaps (CollapsesNet c.args.terms.free c.args.name.now)) (Collapse c.args.name.now) _ _ (g.J.Journal.state c.args.journal.now);
  refines = Refines-refl false _;
}

pub returns-in-Err-note : goal.returns-in-Err-note
returns-in-Err-note g c = record {
  passes = unbegun c.args.terms.free (CollapsesNet c.args.terms.free c.args.name.now) (Perhaps (CollapsesNet c.args.terms.free c.args.name.now)) (Collapse c.args.name.now) _ _ _ _ (Still (refl, refl)) (begun_so _ _ _ _ _ c.in-Ok.ensures c.in-Err-note.ensures);
  refines = Refines-refl false _;
}

pub returns-in-Ok-step : goal.returns-in-Ok-step
returns-in-Ok-step g c = record {
  passes = ended c.args.terms.free (CollapsesNet c.args.terms.free c.args.name.now) (Perhaps (CollapsesNet c.args.terms.free c.args.name.now)) (Collapse c.args.name.now) _ _ _ (begun_so _ _ _ _ _ c.in-Ok.ensures c.in-Ok-note.ensures) _ _ c.in-Ok-step.ensures.passes _ _ c.end.ensures;
  refines = Refines-from_same false _ _ c.in-Ok-step.ensures.means;
}

pub returns-in-Err-step : goal.returns-in-Err-step
returns-in-Err-step g c = record {
  passes = halted c.args.terms.free (CollapsesNet c.args.terms.free c.args.name.now) (Perhaps (CollapsesNet c.args.terms.free c.args.name.now)) (Collapse c.args.name.now) _ _ _ (begun_so _ _ _ _ _ c.in-Ok.ensures c.in-Ok-note.ensures) _ _ _ c.in-Err-step.ensures.passes;
  refines = Refines-from_same false _ _ c.in-Err-step.ensures.means;
}
