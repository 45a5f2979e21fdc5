-- The columns are held, and the row has a value for each.
use Rattle.std.proofs.Common.{◌≡◌, ◌∙◌, length, map, sym, ap, subst, List, arith}
use Rattle.mv_base.specs.declared.number.NetId.{NetId}
use Rattle.mv_base.specs.declared.number.Value.{Value}
use Rattle.mv_trace.specs.Runs.{columns_of, row_said}
use Rattle.mv_trace.proofs.Columns.{AreHeld, columns_held}
use Rattle.mv_trace.proofs.Rows.{row_size}
use Rattle.mv_trace.proofs.reader.read_step.Goals as goal

pub read_row-requires-clause-held : goal.read_row-requires-clause-held
read_row-requires-clause-held c = subst (AreHeld c.args.net.now) (sym c.requires) (columns_held c.args.net.now c.well_formed-2.ensures)

pub step_of-requires : goal.step_of-requires
step_of-requires c =
    let columns = ap length c.requires in
    let width : length c.args.line.now.words ≡ length (columns_of c.args.net.now) = omega arith in
    row_size c.args.net.now c.args.line.now.words c.as_slice.result.now width
    (ap (map (λ (v : Value). v.0)) c.as_slice.ensures.value ∙ c.in_ok-row.ensures.ok ∙ ap (λ (ns : List NetId). row_said c.args.net.now.nets ns c.args.line.now.words) c.requires)
