-- The beginning, the steps and the end, as far as they came.
use Rattle.mv_entry.specs.declared.note.Command.TheVariants.{Kernel}
use Rattle.mv_gains.specs.Candidates.{IsKernelCandidate}
use Rattle.mv_pass.specs.Courses.{VisitsSome}
use Rattle.mv_pass.proofs.Passed.{unbegun, halted, ended}
use Rattle.mv_extract.specs.Extracts.{KernelsAll, KernelsSome, NotesKernels}
use Rattle.mv_extract.proofs.Stopping.{not_begun}
use Rattle.mv_extract.proofs.extracting.kernel.Goals as goal

pub returns-in-Err-clause-passes : goal.returns-in-Err-clause-passes
returns-in-Err-clause-passes g c =
    unbegun c.args.terms.free (KernelsAll c.args.terms.free) (KernelsSome c.args.terms.free) Kernel _ _ _ _ (not_begun IsKernelCandidate (VisitsSome NotesKernels) c.args.terms.free c.args.net.now) c.in-Err.ensures

pub returns-in-Ok-take_out_each-clause-passes : goal.returns-in-Ok-take_out_each-clause-passes
returns-in-Ok-take_out_each-clause-passes g c =
    ended c.args.terms.free (KernelsAll c.args.terms.free) (KernelsSome c.args.terms.free) Kernel _ _ _ c.in-Ok.ensures _ _ c.in-Ok-take_out_each.ensures.passes _ _ c.end.ensures

pub returns-in-Err-take_out_each-clause-passes : goal.returns-in-Err-take_out_each-clause-passes
returns-in-Err-take_out_each-clause-passes g c =
    halted c.args.terms.free (KernelsAll c.args.terms.free) (KernelsSome c.args.terms.free) Kernel _ _ _ c.in-Ok.ensures _ _ _ c.in-Err-take_out_each.ensures.passes
