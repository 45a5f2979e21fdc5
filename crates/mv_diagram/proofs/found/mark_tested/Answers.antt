use Rattle.std.proofs.Common.{◌∙◌, true, sym, arith}
use Rattle.std.proofs.lemmas.List.{length-set}
use Rattle.mv_diagram.proofs.Following.{node_is}
use Rattle.mv_diagram.proofs.Finding.{seen_none, seen_more, seen_skip}
use Rattle.mv_diagram.proofs.found.mark_tested.Goals as goal
use Rattle.mv_diagram.proofs.found.mark_tested.Goals.{in-Some, in_default}

pub loop-place-init : goal.loop-place-init
loop-place-init c = record { long = c.clear.ensures.long ∙ c.requires.long; seen = seen_none c.args.table.now.pool.places c.args.found.now c.clear.new.seen c.clear.ensures.none }

pub node-requires : goal.node-requires
node-requires c = rw c.at.ensures.number (c.requires.found.each c.loop-place.place-index c.loop-place-test.true)

pub bounds-seen-node : goal.bounds-seen-node
bounds-seen-node c =
    let is = (node_is c.args.table.now.counts.items c.args.table.now.pool.places c.requires.sound c.at.result.0 c.in-Some.node (sym c.in-Some.ensures)).test in
    omega (arith, is.variable, c.loop-place.invariant.long)

pub loop-place-preserved : goal.loop-place-preserved
loop-place-preserved c =
    let ns = c.args.table.now.pool.places in
    let was = c.loop-place.invariant in
    elim c.match-node.branch [
      | in-Some w ↦
          let there = sym w.in-Some.ensures in
          let is = (node_is c.args.table.now.counts.items ns c.requires.sound c.at.result.0 w.in-Some.node there).test in
          rw w.seen-is
          (record {
            long = length-set c.loop-place.seen w.in-Some.node.test.var true ∙ was.long;
            seen = seen_more ns c.args.found.now c.loop-place.place-index w.in-Some.node c.loop-place.seen was.seen (rw c.at.ensures.number at there) (omega (arith, is.variable, was.long));
          })
      | in_default w ↦ rw w.seen-is (record { long = was.long; seen = seen_skip ns c.args.found.now c.loop-place.place-index c.loop-place.seen was.seen (rw c.at.ensures.number at (sym w.in_default.ensures)) })
    ]
