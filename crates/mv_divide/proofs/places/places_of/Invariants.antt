use Rattle.std.proofs.Common.{take, nat_eq}
use Rattle.indexmap.specs.IndexMap.{get}
use Rattle.mv_divide.specs.Found.{ArePlaced}
use Rattle.mv_divide.proofs.places.places_of.Given as goal

abbrev pub invariant-loop-place : goal.invariant-loop-place
invariant-loop-place l = ArePlaced (take l.place l.cubes) (get nat_eq l.places.last) l.places.earlier.items
