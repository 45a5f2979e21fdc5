-- The line goes where some literal has no value, else it has the literals that are left.
use Rattle.std.proofs.Common.{◌∙◌, sym, ap}
use Rattle.mv_merging.specs.Tables.{cube_merged}
use Rattle.mv_merging.proofs.Written.{line_nothing, line_put, line_cube}
use Rattle.mv_merging.proofs.tables.put_line.Goals as goal

pub returns-then-some_empty : goal.returns-then-some_empty
returns-then-some_empty c =
    line_nothing c.args.m c.args.n.0 c.args.line.now c.as_slice-slice.result.now c.args.all.now (c.as_slice-slice.ensures ∙ (c.in_ok-left.ensures ∙ ap (cube_merged c.args.m c.args.n.0) c.lits.ensures.lits))
    (sym c.some_empty.ensures ∙ c.if-some_empty.true)

pub new-requires : goal.new-requires
new-requires c =
    line_cube c.args.m c.args.n.0 c.args.line.now.cube c.as_slice-slice.result.now c.lits.result.now c.lits.ensures.lits c.lits.ensures.formed (c.as_slice-slice.ensures ∙ c.in_ok-left.ensures)
    (sym c.some_empty.ensures ∙ c.if-some_empty.false)

pub returns : goal.returns
returns c =
    c.in_ok-push.ensures.ok
    ∙ line_put c.args.m c.args.n.0 c.args.line.now c.as_slice-slice.result.now c.in_ok-cube.cube c.in_ok-out.out c.args.all.now
    (c.as_slice-slice.ensures ∙ (c.in_ok-left.ensures ∙ ap (cube_merged c.args.m c.args.n.0) c.lits.ensures.lits)) (sym c.some_empty.ensures ∙ c.if-some_empty.false) c.in_ok-cube.ensures c.in_ok-out.ensures
