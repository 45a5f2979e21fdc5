-- The nets of the list that lie between the labels come one by one.
use Rattle.std.proofs.Common.{◌∙◌, [], get_or, refl, sym}
use Rattle.mv_base.specs.declared.number.NetId.{NetId}
use Rattle.mv_dag.specs.Finding.{is_in}
use Rattle.mv_dag.proofs.Gains.{gained_more, gained_past}
use Rattle.mv_dag.proofs.reach.started.Goals.{then-is_in+in_ok-insert, else-is_in}
use Rattle.mv_dag.proofs.reach.started.Goals as goal

pub loop-net-preserved : goal.loop-net-preserved
loop-net-preserved c =
    let none : NetId = record { 0 = 0 } in
    let net : NetId = get_or c.args.nets.now c.loop-net.net-index none in
    elim c.if-is_in.branch [
      | then-is_in+in_ok-insert w ↦
          rw w.found-is
          (gained_more [] c.loop-net.found.keys w.insert.new.self.keys c.args.nets.now (is_in c.args.labels.now c.args.low c.args.high) c.loop-net.net-index net none c.loop-net-test.true refl
          (sym c.is_in.ensures ∙ w.if-is_in.true) w.in_ok-insert.ensures.keys c.loop-net.invariant)
      | else-is_in w ↦
          rw w.found-is
          (gained_past [] c.loop-net.found.keys c.args.nets.now (is_in c.args.labels.now c.args.low c.args.high) c.loop-net.net-index net none c.loop-net-test.true refl
          (sym c.is_in.ensures ∙ w.if-is_in.false) c.loop-net.invariant)
    ]
