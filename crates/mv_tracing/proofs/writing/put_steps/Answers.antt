-- One line more is put.
use Rattle.std.proofs.Common.{◌∙◌, arith}
use Rattle.mv_tracing.proofs.Steps.{put_all, put_cut, put_more}
use Rattle.mv_tracing.proofs.writing.put_steps.Goals as goal

pub returns-in-Err : goal.returns-in-Err
returns-in-Err g c = put_cut c.args.net.now c.args.run.now c.loop-k.k _ _ _ _ (omega arith) c.requires.shown c.loop-k.invariant.so_far c.in-Err.ensures.puts

pub loop-k-preserved : goal.loop-k-preserved
loop-k-preserved g c = record {
  so_far = put_more c.args.net.now c.args.run.now c.loop-k.k _ _ _ c.loop-k.invariant.so_far c.in-Ok.ensures.puts;
  order = c.put_shown.ensures.order ∙ c.loop-k.invariant.order;
  room = c.put_shown.ensures.room ∙ c.loop-k.invariant.room;
}

pub returns : goal.returns
returns g c = put_all c.args.net.now c.args.run.now c.loop-k.k _ _ (omega arith) (omega arith) c.loop-k.invariant.so_far
