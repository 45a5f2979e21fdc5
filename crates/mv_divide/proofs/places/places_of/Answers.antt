-- One cube more is placed.
use Rattle.std.proofs.Common.{nat_eq}
use Rattle.indexmap.specs.IndexMap.{get}
use Rattle.mv_divide.proofs.Placing.{placed_more}
use Rattle.mv_divide.proofs.places.places_of.Goals as goal

pub loop-place-preserved : goal.loop-place-preserved
loop-place-preserved c =
    placed_more c.args.cubes.now c.loop-place.place c.index-cubes-place.result (get nat_eq c.loop-place.places.last) (get nat_eq c.note.new.places.last) c.loop-place.places.earlier.items c.note.new.places.earlier.items c.cube_number.result c.loop-place-test.true c.index-cubes-place.is c.cube_number.ensures.formed c.cube_number.ensures.number c.in_ok-note.ensures.last c.in_ok-note.ensures.earlier c.loop-place.invariant
