use Rattle.std.proofs.Common.{◌≡◌, map, take}
use Rattle.mv_joint.specs.Plain.{set_of}
use Rattle.mv_shapes.proofs.distinct.sets_of.Given as goal

abbrev pub invariant-loop-entry : goal.invariant-loop-entry
invariant-loop-entry l = l.sets ≡ map set_of (take l.entry-index l.entries)
