use Rattle.std.proofs.Common.{◌≡◌, map, take}
use Rattle.mv_shapes.specs.Distinct.{place_of}
use Rattle.mv_shapes.proofs.distinct.places_of.Given as goal

abbrev pub invariant-loop-entry : goal.invariant-loop-entry
invariant-loop-entry l = l.places ≡ map place_of (take l.entry-index l.entries)
