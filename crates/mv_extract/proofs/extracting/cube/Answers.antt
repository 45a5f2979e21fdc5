-- The beginning, the steps and the end, as far as they came.
use Rattle.mv_entry.specs.declared.note.Command.TheVariants.{Cube}
use Rattle.mv_gains.specs.Candidates.{IsCubeCandidate}
use Rattle.mv_pass.specs.Courses.{Nothing}
use Rattle.mv_pass.proofs.Passed.{unbegun, halted, ended}
use Rattle.mv_extract.specs.Extracts.{CubesAll, CubesSome}
use Rattle.mv_extract.proofs.Stopping.{not_begun}
use Rattle.mv_extract.proofs.extracting.cube.Goals as goal

pub returns-in-Err-clause-passes : goal.returns-in-Err-clause-passes
returns-in-Err-clause-passes g c =
    unbegun c.args.terms.free (CubesAll c.args.terms.free) (CubesSome c.args.terms.free) Cube _ _ _ _ (not_begun IsCubeCandidate Nothing c.args.terms.free c.args.net.now) c.in-Err.ensures

pub returns-in-Ok-take_out_each-clause-passes : goal.returns-in-Ok-take_out_each-clause-passes
returns-in-Ok-take_out_each-clause-passes g c =
    ended c.args.terms.free (CubesAll c.args.terms.free) (CubesSome c.args.terms.free) Cube _ _ _ c.in-Ok.ensures _ _ c.in-Ok-take_out_each.ensures.passes _ _ c.end.ensures

pub returns-in-Err-take_out_each-clause-passes : goal.returns-in-Err-take_out_each-clause-passes
returns-in-Err-take_out_each-clause-passes g c =
    halted c.args.terms.free (CubesAll c.args.terms.free) (CubesSome c.args.terms.free) Cube _ _ _ c.in-Ok.ensures _ _ _ c.in-Err-take_out_each.ensures.passes
