use Rattle.std.proofs.Common.{◌∙◌, ap, arith}
use Rattle.mv_pool.specs.Places.{held_in, place_of}
use Rattle.mv_pool.proofs.Finding.{AreDistinct-loses}
use Rattle.mv_pool.proofs.Keeping.{IsKept-loses}
use Rattle.mv_pool.proofs.Walking.{reclaimed, Loses-freed}
use Rattle.mv_pool.proofs.pool.Pool.reclaim.Goals as goal

pub number_all-requires-clause-distinct : goal.number_all-requires-clause-distinct
number_all-requires-clause-distinct g c =
    rw c.as_slice-4.ensures.value
    (AreDistinct-loses g.T.PartialEq.eq g.met.T.Eq.laws c.self.inside.places.items c.free_unmarked.new.places.items (Loses-freed c.as_slice-3.result.now c.self.inside.places.items c.free_unmarked.new.places.items c.free_unmarked.ensures.freed) c.self.invariant.fields.distinct)

pub invariant_of-self : goal.invariant_of-self
invariant_of-self g c =
    let is = c.as_slice-4.ensures.value in
    record {
      fields = IsKept-loses g.T.PartialEq.eq g.met.T.Eq.laws c.self.inside.numbers c.number_all.new.numbers c.self.inside.places.items c.free_unmarked.new.places.items _ _ c.self.inside.taken 0 c.self.inside.cap
          c.self.invariant.fields (Loses-freed c.as_slice-3.result.now c.self.inside.places.items c.free_unmarked.new.places.items c.free_unmarked.ensures.freed)
          (omega (arith, c.free_unmarked.ensures.freed.long, c.self.invariant.fields.within)) (omega arith)
          (λ q. c.number_all.ensures.found q ∙ ap (place_of g.T.PartialEq.eq q) is) (c.number_all.ensures.count ∙ ap held_in is) c.number_all.ensures.room c.free_unmarked.ensures.room;
      marked = omega (arith, c.self.invariant.marked, c.begin.ensures.marks, c.reach_roots.ensures.marks, c.follow_all.ensures.marks);
      queued = omega (arith, c.self.invariant.queued, c.begin.ensures.queue, c.reach_roots.ensures.queue, c.follow_all.ensures.queue);
    }

pub returns-clause-places : goal.returns-clause-places
returns-clause-places g c =
    let w = rw c.as_slice-2.ensures.value at c.follow_all.ensures.walking in
    let f = rw c.as_slice-3.ensures.value at c.free_unmarked.ensures.freed in
    rw (← c.self.view_is) (reclaimed g.T.Linked.link_of c.self.inside.places.items c.args.roots.now c.follow_all.new.marks.items c.follow_all.new.queue.items c.free_unmarked.new.places.items w c.follow_all.ensures.rooted f)
