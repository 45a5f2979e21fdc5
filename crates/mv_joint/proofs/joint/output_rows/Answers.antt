use Rattle.std.proofs.Common.{◌∙◌, ◌++◌, ◌∷◌, [], ap}
use Rattle.mv_design.specs.declared.table.Row.{Row}
use Rattle.mv_joint.proofs.Lists.{output_rows_more}
use Rattle.mv_joint.proofs.joint.output_rows.Goals as goal

pub loop-value-preserved : goal.loop-value-preserved
loop-value-preserved c =
    output_rows_more c.args.output c.loop-value.value c.args.all.now c.index-all-value.result c.loop-value.rows c.push.new.self c.loop-value-test.true c.index-all-value.is c.loop-value.invariant
    (c.in_ok-push.ensures.ok ∙ ap (λ (r : Row). c.loop-value.rows ++ r ∷ []) c.in_ok-output_row.ensures)
