-- The last list of moves is taken back.
use Rattle.mv_dag.proofs.Entered.{back_more, back_small}
use Rattle.mv_dag.proofs.entering.put_all_back.Goals as goal

pub back-preserved : goal.back-preserved
back-preserved c = (
  back_small c.back.labels c.put_back.new.labels c.back.moves c.pop.new.self c.in-Some.moved c.in-Some.ensures.some c.put_back.auto.labels c.back.invariant.0,
  λ before w.
      back_more c.back.labels c.put_back.new.labels c.back.moves c.pop.new.self c.in-Some.moved c.as_slice.result.now c.in-Some.ensures.some c.as_slice.ensures c.put_back.auto.labels c.put_back.ensures before (c.back.invariant.1 before w),
)
