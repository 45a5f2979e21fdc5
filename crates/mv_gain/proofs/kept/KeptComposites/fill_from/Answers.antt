-- One reader more, or all of them.
use Rattle.std.proofs.Common.{inr, arith}
use Rattle.mv_gain.proofs.Right.{part_right, kept_more, kept_all}
use Rattle.mv_gain.proofs.kept.KeptComposites.fill_from.Goals as goal

pub returns-then-is_none-clause-right : goal.returns-then-is_none-clause-right
returns-then-is_none-clause-right c = part_right _ _ _ c.set_next.ensures.part c.in_ok-composite.ensures.right

pub loop-reader-preserved : goal.loop-reader-preserved
loop-reader-preserved c = record {
  right = c.in_ok-composite.ensures.right;
  made = c.in_ok-composite.ensures.made;
  kept = λ all. kept_more _ _ _ _ _ (record { 0 = 0 }) _ c.loop-reader-test.true c.in_ok-composite.ensures.more c.in_ok-composite.ensures.here (c.loop-reader.invariant.kept all);
}

pub returns-clause-right : goal.returns-clause-right
returns-clause-right c = part_right _ _ _ c.set_next-2.ensures.part c.loop-reader.invariant.right

pub returns-clause-enough : goal.returns-clause-enough
returns-clause-enough c = λ all.
    inr (kept_all c.args.net.now.nets _ _ _ _ _ (omega (arith, c.loop-reader-test.false)) c.readers-reader-items.ensures c.set_next-2.ensures.more (c.loop-reader.invariant.kept all))
