-- The tables are gone through, and no net stands twice.
use Rattle.std.proofs.Common.{◌∙◌, ◌||◌, Bool, nat_eq, get_or, refl, sym, ap}
use Rattle.mv_base.specs.declared.number.NetId.{NetId}
use Rattle.mv_net.specs.Nets.{reads_in}
use Rattle.std.proofs.lemmas.List.{take_all}
use Rattle.mv_dag.proofs.Differing.{differ_from_distinct}
use Rattle.mv_graph.proofs.Nets.{has_id-at}
use Rattle.mv_wide.specs.Inners.{touches}
use Rattle.mv_wide.proofs.Listing.{touch_more}
use Rattle.mv_wide.proofs.nets.nets_of.Goals as goal

pub insert_table-requires : goal.insert_table-requires
insert_table-requires c =
    let d : NetId = record { 0 = 0 } in
    c.requires.each (get_or c.args.tables.now c.loop-table.table-index d).0 (has_id-at c.args.tables.now c.loop-table.table-index d c.loop-table-test.true)

pub loop-table-preserved : goal.loop-table-preserved
loop-table-preserved c = λ m.
    let d : NetId = record { 0 = 0 } in
    let t : NetId = get_or c.args.tables.now c.loop-table.table-index d in
    let nets = c.args.net.now.nets in
    c.in_ok-insert_table.ensures m ∙ ap (λ (b : Bool). b || (reads_in nets t.0 m || nat_eq t.0 m)) (c.loop-table.invariant m)
    ∙ sym (touch_more nets c.args.tables.now c.loop-table.table-index t d m c.loop-table-test.true refl)

pub returns-clause-members : goal.returns-clause-members
returns-clause-members c = λ m.
    c.loop-table.invariant m
    ∙ ap (λ l. touches c.args.net.now.nets l m) (take_all c.loop-table.table-index c.args.tables.now c.loop-table-test.false)

pub returns-clause-once : goal.returns-clause-once
returns-clause-once c = differ_from_distinct c.loop-table.found.keys c.len.ensures.unique
