use Rattle.std.proofs.Common.{None, ◌+◌, ◌∙◌}
use Rattle.indexmap.specs.IndexMap.{index_map_len, spare}
use Rattle.mv_pool.proofs.Walking.{read_any}
use Rattle.mv_pool.proofs.Keeping.{AreNumbered-some, AreNumbered-free, fresh_next}
use Rattle.mv_pool.proofs.pool.number_all.Goals as goal
use Rattle.mv_pool.proofs.pool.number_all.Goals.{in-Some, in_default}

pub number-requires-clause-fresh : goal.number-requires-clause-fresh
number-requires-clause-fresh g c =
    let there = read_any c.args.places.now c.loop-at.at c.index-places-at.result None c.loop-at-test.true c.index-places-at.is in
    fresh_next g.T.PartialEq.eq g.met.T.Eq.laws c.loop-at.numbers c.args.places.now c.loop-at.at (index_map_len c.args.numbers.now + spare c.args.numbers.now) c.in-Some.item c.requires.distinct c.loop-at.invariant (there ∙ c.in-Some.is)

pub loop-at-preserved : goal.loop-at-preserved
loop-at-preserved g c =
    let there = read_any c.args.places.now c.loop-at.at c.index-places-at.result None c.loop-at-test.true c.index-places-at.is in
    elim c.match-place.branch [
      | in-Some w ↦ rw w.numbers-is (AreNumbered-some g.T.PartialEq.eq g.met.T.Eq.laws c.loop-at.numbers _ c.args.places.now c.loop-at.at (index_map_len c.args.numbers.now + spare c.args.numbers.now) w.in-Some.item c.requires.distinct c.loop-at.invariant (there ∙ w.in-Some.is) w.number.ensures.updates w.number.ensures.count w.number.ensures.room)
      | in_default w ↦ rw w.numbers-is (AreNumbered-free g.T.PartialEq.eq g.met.T.Eq.laws c.loop-at.numbers c.args.places.now c.loop-at.at (index_map_len c.args.numbers.now + spare c.args.numbers.now) c.loop-at.invariant c.loop-at-test.true (there ∙ w.in_default.is))
    ]
