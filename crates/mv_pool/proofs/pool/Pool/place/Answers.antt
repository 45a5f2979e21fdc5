use Rattle.std.proofs.Common.{◌≡◌, ◌∙◌, ◌<◌, ap, arith, None}
use Rattle.mv_pool.specs.Places.{held_in, least_free, place_of}
use Rattle.mv_pool.proofs.Placing.{least-le-held}
use Rattle.mv_pool.proofs.Keeping.{IsKept-with}
use Rattle.mv_pool.proofs.pool.Pool.place.Goals as goal

pub fill-requires-clause-room : goal.fill-requires-clause-room
fill-requires-clause-room g c =
    let here : c.next_free-at.result ≡ least_free c.self.inside.places.items = c.next_free-at.ensures ∙ ap least_free c.as_slice.ensures.value in
    let room : held_in c.self.inside.places.items < c.self.inside.cap = rw (← c.self.view_is) at c.requires.room in
    omega (arith, least-le-held c.self.inside.places.items, c.self.invariant.fields.fits)

pub overflow_cast-place : goal.overflow_cast-place
overflow_cast-place g c =
    let here : c.next_free-at.result ≡ least_free c.self.inside.places.items = c.next_free-at.ensures ∙ ap least_free c.as_slice.ensures.value in
    let room : held_in c.self.inside.places.items < c.self.inside.cap = rw (← c.self.view_is) at c.requires.room in
    omega (arith, least-le-held c.self.inside.places.items, c.self.invariant.fields.small)

pub overflow_add-self : goal.overflow_add-self
overflow_add-self g c =
    let here : c.next_free-at.result ≡ least_free c.self.inside.places.items = c.next_free-at.ensures ∙ ap least_free c.as_slice.ensures.value in
    let room : held_in c.self.inside.places.items < c.self.inside.cap = rw (← c.self.view_is) at c.requires.room in
    omega (arith, least-le-held c.self.inside.places.items, c.self.invariant.fields.small)

pub invariant_of-self : goal.invariant_of-self
invariant_of-self g c =
    let here : c.next_free-at.result ≡ least_free c.self.inside.places.items = c.next_free-at.ensures ∙ ap least_free c.as_slice.ensures.value in
    let room : held_in c.self.inside.places.items < c.self.inside.cap = rw (← c.self.view_is) at c.requires.room in
    let new : place_of g.T.PartialEq.eq c.args.item c.self.inside.places.items ≡ None = rw (← c.self.view_is) at c.requires.fresh in
    record {
      fields = IsKept-with g.T.PartialEq.eq g.met.T.Eq.laws c.self.inside.numbers _ c.self.inside.places.items _ c.args.item c.next_free-at.result _ _ c.self.inside.taken c.self.inside.cap
          c.self.invariant.fields new room here c.fill.ensures.items c.number.ensures.updates c.number.ensures.count c.number.ensures.room c.fill.ensures.room;
      marked = c.self.invariant.marked;
      queued = c.self.invariant.queued;
    }
