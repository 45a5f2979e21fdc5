-- The variables that are eliminated are those of the plan.
use Rattle.std.proofs.Common.{arith}
use Rattle.mv_wide.proofs.Counting.{beside_vars, hidden_vars}
use Rattle.mv_wide.proofs.Finding.{tables_few}
use Rattle.mv_wide.proofs.Framing.{own_table, table_is_held}
use Rattle.mv_wide.proofs.Planning.{beside_low, hidden_low, inputs_listed, tables_listed}
use Rattle.mv_wide.proofs.plan.plan_of.Goals as goal

pub overflow_add-copies : goal.overflow_add-copies
overflow_add-copies c = omega (arith, tables_few c.args.net.now c.args.w.now c.args.n.0 c.requires.window, c.few.ensures)

pub overflow_add-others : goal.overflow_add-others
overflow_add-others c = omega (arith, tables_few c.args.net.now c.args.w.now c.args.n.0 c.requires.window, c.few.ensures)

pub hidden_of-requires : goal.hidden_of-requires
hidden_of-requires c = rw c.as_slice-vars.ensures.value (tables_listed c.args.net.now c.args.w.now c.args.n.0 c.requires.window c.args.frame.now c.requires.frame)

pub kept_of-requires : goal.kept_of-requires
kept_of-requires c =
    table_is_held c.args.net.now c.args.w.now c.args.n.0 c.requires.window c.args.n.0
    (own_table c.args.net.now c.args.w.now c.args.n.0 c.requires.window c.requires.table)

pub beside_of-requires-clause-tables : goal.beside_of-requires-clause-tables
beside_of-requires-clause-tables c = rw c.as_slice-vars.ensures.value (tables_listed c.args.net.now c.args.w.now c.args.n.0 c.requires.window c.args.frame.now c.requires.frame)

pub beside_of-requires-clause-inputs : goal.beside_of-requires-clause-inputs
beside_of-requires-clause-inputs c = rw c.as_slice-vars.ensures.value (inputs_listed c.args.net.now c.args.w.now c.args.n.0 c.requires.window c.args.frame.now c.requires.frame)

pub place_of-place-requires : goal.place_of-place-requires
place_of-place-requires c = rw c.as_slice-2.ensures (own_table c.args.net.now c.args.w.now c.args.n.0 c.requires.window c.requires.table)

pub returns : goal.returns
returns c =
    let place = rw c.as_slice-2.ensures at c.place_of-place.ensures in
    let hidden = rw c.as_slice-vars.ensures.value at c.in_ok-hidden.ensures in
    let beside = rw (c.as_slice-vars.ensures.value, c.as_slice.ensures.value) at c.in_ok-beside.ensures in
    record {
      inside = place.inside;
      here = place.here;
      hidden = hidden_vars c.args.w.now c.args.frame.now.vars.items c.in_ok-hidden.hidden.items hidden;
      hidden_low = hidden_low c.args.net.now c.args.w.now c.args.n.0 c.requires.window c.args.frame.now c.requires.frame c.in_ok-hidden.hidden.items hidden;
      beside = beside_vars c.args.net.now.nets c.args.w.now c.args.n.0 c.args.frame.now.vars.items c.in_ok-keep.keep.items c.in_ok-beside.beside.items
          c.in_ok-keep.ensures beside;
      beside_low = beside_low c.args.net.now c.args.w.now c.args.n.0 c.requires.window c.args.frame.now c.requires.frame c.in_ok-keep.keep.items
          c.in_ok-beside.beside.items c.in_ok-keep.ensures beside;
    }
