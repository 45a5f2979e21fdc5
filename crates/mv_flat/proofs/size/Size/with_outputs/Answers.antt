-- The lines of one cover more.
use Rattle.std.proofs.Common.{arith}
use Rattle.mv_flat.proofs.Sizes.{outputs_more}
use Rattle.mv_flat.proofs.size.Size.with_outputs.Goals as goal

pub loop-cover-preserved : goal.loop-cover-preserved
loop-cover-preserved c = record {
  size =
      outputs_more c.args.self c.args.covers.now c.loop-cover.cover-index c.cover-item.result c.loop-cover.size c.with_lines-size.result c.loop-cover-test.true
      c.cover-item.is c.loop-cover.invariant.size c.with_lines-size.ensures.size;
  lines = let e = c.with_lines-size.ensures.lines in let h = c.loop-cover.invariant.lines in omega (arith, e, h);
  literals = let e = c.with_lines-size.ensures.literals in let h = c.loop-cover.invariant.literals in omega (arith, e, h);
}
