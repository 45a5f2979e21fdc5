use Rattle.mv_walk.proofs.Lookups.{place_next}
use Rattle.mv_walk.proofs.known.places.Goals as goal

pub loop-place-preserved : goal.loop-place-preserved
loop-place-preserved c =
    place_next c.args.models.now c.loop-place.places c.put_first.new.map c.loop-place.place c.index-models-place.result c.loop-place.invariant c.loop-place-test.true c.index-models-place.is
    c.in_ok-put_first.ensures
