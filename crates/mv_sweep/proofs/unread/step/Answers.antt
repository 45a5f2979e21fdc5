-- The net that goes is the least that can, by its name.
use Rattle.std.proofs.Common.{◌∙◌, refl}
use Rattle.mv_pass.proofs.Greedy.{step_applied, step_unapplied}
use Rattle.mv_pass.proofs.Stepped.{stuck}
use Rattle.mv_sweep.specs.Drops.{IsDropStep, DropsSome}
use Rattle.mv_sweep.proofs.Stepping.{can_go, is_step}
use Rattle.mv_sweep.proofs.unread.step.Goals as goal

pub take-requires : goal.take-requires
take-requires g c = can_go c.args.net.now c.args.n.0 _ c.requires (c.in-Ok.ensures ∙ c.name.ensures) c.args.terms.free

pub returns-in-Err-clause-passes : goal.returns-in-Err-clause-passes
returns-in-Err-clause-passes g c = stuck c.args.terms.free (DropsSome c.args.terms.free) (DropsSome c.args.terms.free) _ _ refl

pub returns-in-Ok-take-clause-passes : goal.returns-in-Ok-take-clause-passes
returns-in-Ok-take-clause-passes g c =
    let r = c.in-Ok-take.ensures in
    let lawful = is_step c.args.net.now c.args.n.0 _ c.requires (c.in-Ok.ensures ∙ c.name.ensures) in
    step_applied c.args.terms.free IsDropStep _ _ _ _ _ lawful r.refines r.goes_on r.ok

pub returns-clause-passes : goal.returns-clause-passes
returns-clause-passes g c =
    let r = c.in-Err-take.ensures in
    let lawful = is_step c.args.net.now c.args.n.0 _ c.requires (c.in-Ok.ensures ∙ c.name.ensures) in
    step_unapplied c.args.terms.free IsDropStep _ _ _ _ _ lawful r.refines r.goes_on _ r.note r.cause r.net r.journal

pub returns-in-Ok-take-clause-means : goal.returns-in-Ok-take-clause-means
returns-in-Ok-take-clause-means g c = c.in-Ok-take.ensures.means refl

pub returns-clause-means : goal.returns-clause-means
returns-clause-means g c = c.in-Err-take.ensures.means refl
