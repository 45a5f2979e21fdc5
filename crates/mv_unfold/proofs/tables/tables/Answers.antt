-- Place by place.
use Rattle.std.proofs.Common.{◌<◌, ◌≤◌, length, arith}
use Rattle.mv_tree.specs.Unfolded.{tables_in}
use Rattle.mv_unfold.specs.Laid.{places_of}
use Rattle.mv_unfold.proofs.Laid.{places_long}
use Rattle.mv_unfold.proofs.OneModel.{tables_more, tables_end}
use Rattle.mv_unfold.proofs.tables.tables.Goals as goal

pub loop-number-preserved : goal.loop-number-preserved
loop-number-preserved c =
    let l = c.args.layout.now in
    let ps = places_of l in
    let n = c.loop-number.number in
    let long = places_long l c.requires in
    let lt : n < length ps = let e = c.len-number-end.ensures in let t = c.loop-number-test.true in omega arith in
    record {
      tables = tables_more ps n c.loop-number.tables c.add_tables.new.tables (tables_in 0 ps) lt c.in_ok-add_tables.ensures.is c.loop-number.invariant.tables;
      right = c.in_ok-add_tables.ensures.right;
    }

pub returns : goal.returns
returns c =
    let l = c.args.layout.now in
    let ps = places_of l in
    let n = c.loop-number.number in
    let long = places_long l c.requires in
    let low : length ps ≤ n = let e = c.len-number-end.ensures in let t = c.loop-number-test.false in omega arith in
    tables_end ps n c.loop-number.tables (tables_in 0 ps) low c.loop-number.invariant.tables
