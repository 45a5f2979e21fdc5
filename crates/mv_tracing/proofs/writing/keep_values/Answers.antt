-- One value more is kept.
use Rattle.std.proofs.Common.{◌∙◌, arith}
use Rattle.std.proofs.lemmas.List.{length-set}
use Rattle.mv_tracing.proofs.Steps.{kept_more}
use Rattle.mv_tracing.proofs.writing.keep_values.Goals as goal

pub loop-n-preserved : goal.loop-n-preserved
loop-n-preserved c = record {
  long = length-set c.loop-n.values c.loop-n.n c.value.result ∙ c.loop-n.invariant.long;
  kept = kept_more c.loop-n.values c.args.solver.now.values c.loop-n.n c.value.result (omega (arith, c.loop-n.invariant.long)) c.value.ensures c.loop-n.invariant.kept;
}

pub returns : goal.returns
returns c = record {
  long = c.loop-n.invariant.long;
  kept = λ m low. c.loop-n.invariant.kept m (omega (arith, c.loop-n.invariant.long));
}
