-- The flexibility tells of the window of this moment, and the table is made tight by it.
use Rattle.std.proofs.Common.{refl}
use Rattle.mv_pass.specs.Courses.{Perhaps, Still}
use Rattle.mv_pass.proofs.Stepped.{idle, stuck}
use Rattle.mv_simplify.specs.Simplifying.{Visit}
use Rattle.mv_simplify.proofs.Taking.{keeps_later, tight_now, to_take}
use Rattle.mv_simplify.proofs.visiting.tighten.Goals as goal

pub returns-in-Err-clause-passes : goal.returns-in-Err-clause-passes
returns-in-Err-clause-passes g c = stuck c.args.asked.terms.free (Visit c.args.asked c.args.n.0) (Perhaps (Visit c.args.asked c.args.n.0)) c.args.net.now _ (Still (refl, refl))

pub returns-in-Ok-None-clause-passes : goal.returns-in-Ok-None-clause-passes
returns-in-Ok-None-clause-passes g c =
    idle c.args.asked.terms.free (Visit c.args.asked c.args.n.0) (Perhaps (Visit c.args.asked c.args.n.0)) c.args.net.now _
    (tight_now c.args.asked c.args.net.now c.args.n.0 c.in-Ok.window c.in-Ok-flex.flexibility c.requires.table c.in-Ok.ensures c.in-Ok-flex.ensures.narrow c.requires.below c.in-Ok-flex.ensures.ok c.in-Ok-None.field-0 c.in-Ok-None.ensures.ok c.in-Ok-None.field-0-is)

pub narrow-requires-clause-new : goal.narrow-requires-clause-new
narrow-requires-clause-new g c =
    to_take c.args.asked c.args.net.now c.args.n.0 c.in-Ok.window c.in-Ok-flex.flexibility c.requires.table c.in-Ok.ensures c.in-Ok-flex.ensures.narrow c.requires.below c.in-Ok-flex.ensures.ok c.in-Ok-Some.field-0 c.in-Ok-Some.ensures.ok c.in-Ok-Some.table c.in-Ok-Some.field-0-is

pub note_stop-requires-in-Err-make_tight-clause-keeps :
    goal.note_stop-requires-in-Err-make_tight-clause-keeps
note_stop-requires-in-Err-make_tight-clause-keeps g c =
    keeps_later c.args.asked c.args.net.now c.args.n.0 c.in-Ok.window c.in-Ok.ensures c.requires.below _
    (c.in-Err-make_tight.ensures.err c.in-Ok.window c.args.asked.terms.budget c.in-Ok-flex.ensures.ok)
