-- The lines of the steps before this one are put.
use Rattle.std.proofs.Common.{◌≡◌, length}
use Rattle.mv_page.specs.Page.{paged}
use Rattle.mv_tracing.proofs.Steps.{PutSoFar}
use Rattle.mv_tracing.proofs.writing.put_steps.Given as goal

abbrev pub invariant-loop-k : goal.invariant-loop-k
invariant-loop-k g l = record {
  so_far : PutSoFar l.net l.run l.k (paged (g.K.Sink.state l.fn.out) l.fn.page) (paged (g.K.Sink.state l.out) l.page);
  order : l.solver.order ≡ l.fn.solver.order;
  room : length l.values ≡ length l.initial.values;
}
