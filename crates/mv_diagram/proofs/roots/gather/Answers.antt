use Rattle.std.proofs.Common.{Option, get_or, subst, arith}
use Rattle.mv_pool.proofs.Walking.{same_read}
use Rattle.mv_pool.specs.declared.pool.Id.{Id}
use Rattle.mv_diagram.specs.declared.node.Dd.{Dd}
use Rattle.mv_diagram.specs.Roots.{IsAdded}
use Rattle.mv_diagram.proofs.Gathering.{gathered_more, seen_more}
use Rattle.mv_diagram.proofs.roots.gather.Goals as goal

pub loop-root-preserved : goal.loop-root-preserved
loop-root-preserved c =
    let root : Dd = get_or c.args.roots.now c.loop-root.root-index (record { 0 = 0 }) in
    let here = same_read c.args.roots.now c.loop-root.root-index (record { 0 = 0 }) root c.loop-root-test.true in
    let added = subst (λ (p : Option Id). IsAdded p c.loop-root.marks.items c.loop-root.ids.items c.add.new.marks.items c.add.new.ids.items) c.place.ensures c.add.ensures.added in
    record {
      gathered = gathered_more c.args.roots.now c.loop-root.marks.items c.loop-root.ids.items c.add.new.marks.items c.add.new.ids.items c.loop-root.root-index root c.loop-root-test.true here added c.loop-root.invariant.gathered c.loop-root.invariant.seen;
      marked = c.add.ensures.added.marked;
      size = omega (arith, c.add.ensures.added.size, c.loop-root.invariant.size);
      seen = seen_more c.args.roots.now c.loop-root.marks.items c.loop-root.ids.items c.add.new.marks.items c.add.new.ids.items c.loop-root.root-index root c.loop-root-test.true here added c.loop-root.invariant.seen;
      marks = omega (arith, c.add.ensures.marks, c.loop-root.invariant.marks);
      ids = omega (arith, c.add.ensures.ids, c.loop-root.invariant.ids);
    }
