-- Where the old table was total the marks stay right, and else they are made anew.
use Rattle.std.proofs.Common.{◌∙◌, sym}
use Rattle.mv_simplify.proofs.Taking.{held_to_take, spent, unmarked_here}
use Rattle.mv_simplify.proofs.visiting.narrow.Goals as goal

pub returns-then-not-was_partial : goal.returns-then-not-was_partial
returns-then-not-was_partial g c = record {
  right =
      c.in-Ok.ensures.keeps
      (unmarked_here c.args.net.now.nets c.args.n.0 _ (sym c.has-was_partial.ensures.marked ∙ c.if-not-was_partial.true)
      (c.requires.right.each c.args.n.0 (held_to_take c.args.asked c.args.net.now c.args.n.0 c.args.table.now c.args.flexibility.now c.requires.new)))
      c.args.partial.now c.requires.right;
  passes = c.in-Ok.ensures.passes;
}

pub returns-in-Err-partial_nets-clause-passes : goal.returns-in-Err-partial_nets-clause-passes
returns-in-Err-partial_nets-clause-passes g c = spent c.args.asked c.args.n.0 c.args.net.now c.narrow_one.new.net _ _ c.in-Ok.ensures.passes
