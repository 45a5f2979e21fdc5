use Rattle.std.proofs.Common.{◌≡◌, take, map}
use Rattle.mv_joint.specs.Plain.{set_of}
use Rattle.mv_joint.proofs.plain.sets_of.Given as goal

abbrev pub invariant-loop-entry : goal.invariant-loop-entry
invariant-loop-entry l = l.sets ≡ map set_of (take l.entry-index l.entries)
