use Rattle.std.proofs.Common.{◌≡◌, refl, ◌∙◌, inl, inr, ⊎_elim}
use Rattle.mv_table.specs.Tables.{lines_values_faults, table_faults}
use Rattle.mv_table.proofs.Lines.{rows-next, default-next, fault-next, fault-here}
use Rattle.mv_table.proofs.table.read_table.Goals as goal

pub loop-line-preserved : goal.loop-line-preserved
loop-line-preserved c = record {
  rows = rows-next c.args.decls.now c.split_columns.result.0.now c.split_columns.result.1.now c.args.lines.now c.loop-line.line-index c.line-item.result _ _ c.loop-line-test.true c.line-item.is c.loop-line.invariant.rows (rw (c.in_ok-columns.ensures.ins, c.in_ok-columns.ensures.outs) at c.in-Ok.ensures.rows);
  default = default-next c.args.decls.now c.split_columns.result.0.now c.split_columns.result.1.now c.args.lines.now c.loop-line.line-index c.line-item.result _ _ c.loop-line-test.true c.line-item.is c.loop-line.invariant.default (rw (c.in_ok-columns.ensures.ins, c.in_ok-columns.ensures.outs) at c.in-Ok.ensures.default);
  fault = fault-next c.args.decls.now c.split_columns.result.0.now c.split_columns.result.1.now c.args.lines.now c.loop-line.line-index c.line-item.result _ c.loop-line-test.true c.line-item.is c.loop-line.invariant.fault (rw (c.in_ok-columns.ensures.ins, c.in_ok-columns.ensures.outs) at c.in-Ok.ensures.fault);
}

pub returns-in-Err-clause-fault : goal.returns-in-Err-clause-fault
unfolding table_faults
returns-in-Err-clause-fault c =
    let here = rw (c.in_ok-columns.ensures.ins, c.in_ok-columns.ensures.outs) at c.in-Err.ensures.fault in
    let all : lines_values_faults c.args.decls.now c.split_columns.result.0.now c.split_columns.result.1.now c.args.lines.now ≡ table_faults c.args.decls.now c.args.head.now c.args.lines.now = rw (c.split_columns.ensures.ins, c.split_columns.ensures.outs, c.behind_first.ensures) refl in
    ⊎_elim inl (λ e. inr (fault-here c.args.decls.now c.split_columns.result.0.now c.split_columns.result.1.now c.args.lines.now c.loop-line.line-index c.line-item.result _ _ c.loop-line-test.true c.line-item.is (c.loop-line.invariant.fault ∙ all) e)) here
