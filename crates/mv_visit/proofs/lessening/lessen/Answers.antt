-- The window isn't too wide, or it is noted that it is.
use Rattle.std.proofs.Common.{ap, is_some, refl}
use Rattle.mv_pass.specs.Courses.{Perhaps, Still}
use Rattle.mv_pass.proofs.Stepped.{stuck}
use Rattle.mv_visit.specs.Visits.{MayLessen}
use Rattle.mv_visit.proofs.Visited.{always, may_give, noted_wide}
use Rattle.mv_visit.proofs.lessening.lessen.Goals as goal

pub window-requires : goal.window-requires
window-requires g c = ap (λ t. is_some t) c.requires.lesser.table_is

pub returns-in-Err-clause-passes : goal.returns-in-Err-clause-passes
returns-in-Err-clause-passes g c = stuck c.args.terms.free (MayLessen c.args.n.0 c.args.table.now) (Perhaps (MayLessen c.args.n.0 c.args.table.now)) c.args.net.now _ (Still (refl, refl))

pub note_why-requires : goal.note_why-requires
note_why-requires g c = ap (λ t. is_some t) c.requires.lesser.table_is

pub returns-then-is_too_wide : goal.returns-then-is_too_wide
returns-then-is_too_wide g c = record {
  right = always _ _ c.requires.right;
  passes =
      noted_wide c.args.terms.free c.args.n.0 c.args.table.now c.args.net.now _ _ _
      (record { window = c.in-Ok.window; is = c.in-Ok.ensures; holds = rw c.if-is_too_wide.true at c.is_too_wide.ensures })
      (c.note_why.ensures c.args.terms.free);
}

pub give_and_tell-requires : goal.give_and_tell-requires
give_and_tell-requires g c = record {
  right = c.requires.right;
  new = record {
    lesser = c.requires.lesser;
    below = c.requires.below;
    window = c.in-Ok.window;
    is = c.in-Ok.ensures;
    narrow = rw c.if-is_too_wide.false at c.is_too_wide.ensures;
  };
}

pub returns : goal.returns
returns g c = record {
  right = c.give_and_tell.ensures.right;
  passes = may_give c.args.terms.free c.args.n.0 c.args.table.now c.args.net.now c.give_and_tell.new.net _ _ _ c.give_and_tell.ensures.passes;
}
