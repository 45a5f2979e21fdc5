-- The declarations that were there stay in front, so that the first of them can be kept.
use Rattle.std.proofs.Common.{◌∙◌, ap, take, arith, rules}
use Rattle.std.proofs.lemmas.Grind.{common_steps}
use Rattle.mv_decl.proofs.Kept.{front_stays}
use Rattle.mv_decl.proofs.line.declare_all.Goals as goal

pub loop-net-preserved : goal.loop-net-preserved
loop-net-preserved c = record {
  said = first_of (search rules, grind (arith, common_steps));
  size = c.loop-net.invariant.size;
  front = ap (take c.len-before.result) c.in_default.ensures.ok ∙ front_stays c.len-before.result c.args.decls.now c.loop-net.decls _ c.loop-net.invariant.size c.loop-net.invariant.front;
}
