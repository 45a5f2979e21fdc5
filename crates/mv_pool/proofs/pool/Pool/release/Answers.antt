use Rattle.std.proofs.Common.{◌≡◌, ◌∙◌, take, ap, arith, length-take}
use Rattle.mv_pool.specs.Places.{held_in, place_of}
use Rattle.mv_pool.proofs.Finding.{AreDistinct-loses}
use Rattle.mv_pool.proofs.Keeping.{IsKept-loses, Loses-take, least-take}
use Rattle.mv_pool.proofs.pool.Pool.release.Goals as goal

pub number_all-requires-clause-distinct : goal.number_all-requires-clause-distinct
number_all-requires-clause-distinct g c =
    rw (c.as_slice.ensures.value, c.truncate.ensures.items)
    (AreDistinct-loses g.T.PartialEq.eq g.met.T.Eq.laws c.self.inside.places.items (take c.args.mark.0 c.self.inside.places.items) (Loses-take c.self.inside.places.items c.args.mark.0) c.self.invariant.fields.distinct)

pub invariant_of-self : goal.invariant_of-self
invariant_of-self g c =
    let qs = take c.args.mark.0 c.self.inside.places.items in
    let is : c.as_slice.result.now ≡ qs = c.as_slice.ensures.value ∙ c.truncate.ensures.items in
    rw (c.truncate.ensures.items, c.min-self-inside.ensures)
    (record {
      fields = IsKept-loses g.T.PartialEq.eq g.met.T.Eq.laws c.self.inside.numbers c.number_all.new.numbers c.self.inside.places.items qs _ _ c.self.inside.taken _ c.self.inside.cap
          c.self.invariant.fields (Loses-take c.self.inside.places.items c.args.mark.0) (let s = length-take c.args.mark.0 c.self.inside.places.items in omega (arith, c.self.invariant.fields.within))
          (least-take c.self.inside.places.items c.self.inside.taken c.args.mark.0 c.self.invariant.fields.least)
          (λ q. c.number_all.ensures.found q ∙ ap (place_of g.T.PartialEq.eq q) is) (c.number_all.ensures.count ∙ ap held_in is) c.number_all.ensures.room
          (omega (arith, c.truncate.ensures.capacity, c.self.invariant.fields.fits));
      marked = c.self.invariant.marked;
      queued = c.self.invariant.queued;
    })
