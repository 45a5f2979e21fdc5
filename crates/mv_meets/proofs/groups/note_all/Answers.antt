use Rattle.std.proofs.Common.{◌+◌, ◌≤◌, ◌<◌, take, sym, subst, arith}
use Rattle.mv_meets.specs.Groups.{from_net, places_in, IsNoted}
use Rattle.mv_meets.specs.declared.groups.Groups.{Groups}
use Rattle.mv_meets.proofs.Grouping.{noted_from, noted_past}
use Rattle.mv_meets.proofs.groups.note_all.Goals as goal
use Rattle.mv_meets.proofs.groups.note_all.Goals.{then-net-low+in_ok-note, else-net-low}

pub loop-literal-preserved : goal.loop-literal-preserved
loop-literal-preserved c =
    let x = c.literal-item.result in
    let i = c.loop-literal.literal-index in
    let xs = c.args.literals.now in
    let old = places_in c.args.groups.now in
    let mid = places_in c.loop-literal.groups in
    elim c.if-net-low.branch [
      | then-net-low+in_ok-note w ↦
          let high : c.args.low ≤ x.net.0 = omega (arith, w.if-net-low.true, c.net.ensures.number) in
          subst (λ (g : Groups). IsNoted (from_net c.args.low (take (i + 1) xs)) c.args.place old (places_in g)) (sym w.groups-is)
          (noted_from c.args.low xs i x c.args.place old mid (places_in w.note.new.groups) c.requires c.loop-literal-test.true c.literal-item.is high c.loop-literal.invariant w.in_ok-note.ensures)
      | else-net-low w ↦
          let less : x.net.0 < c.args.low = omega (arith, w.if-net-low.false, c.net.ensures.number) in
          subst (λ (g : Groups). IsNoted (from_net c.args.low (take (i + 1) xs)) c.args.place old (places_in g)) (sym w.groups-is)
          (noted_past c.args.low xs i x c.args.place old mid c.loop-literal-test.true c.literal-item.is less c.loop-literal.invariant)
    ]
