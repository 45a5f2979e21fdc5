-- Where the old table was total the same nets are told, and else they are told anew.
use Rattle.std.proofs.Common.{◌∙◌, sym}
use Rattle.mv_visit.specs.Visits.{Lessens}
use Rattle.mv_visit.proofs.Lesser.{held_to_take, unmarked_here}
use Rattle.mv_visit.proofs.Visited.{spent}
use Rattle.mv_visit.proofs.lessening.give_and_tell.Goals as goal

pub returns-then-not-was_partial : goal.returns-then-not-was_partial
returns-then-not-was_partial g c = record {
  right =
      c.in-Ok.ensures.right
      (unmarked_here c.args.net.now.nets c.args.n.0 _ (sym c.has-was_partial.ensures.marked ∙ c.if-not-was_partial.true)
      (c.requires.right.each c.args.n.0 (held_to_take c.args.net.now c.args.n.0 c.args.table.now c.requires.new)));
  passes = c.in-Ok.ensures.passes;
}

pub returns-in-Err-partial_nets-clause-passes : goal.returns-in-Err-partial_nets-clause-passes
returns-in-Err-partial_nets-clause-passes g c = spent c.args.terms.free (Lessens c.args.n.0 c.args.table.now) c.args.net.now c.give.new.net _ _ c.in-Ok.ensures.passes
