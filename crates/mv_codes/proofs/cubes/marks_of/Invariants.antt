use Rattle.std.proofs.Common.{◌≡◌, take}
use Rattle.mv_codes.specs.CodeCubes.{marks_of}
use Rattle.mv_codes.proofs.cubes.marks_of.Given as goal

abbrev pub invariant-loop-value : goal.invariant-loop-value
invariant-loop-value l = l.marks.items ≡ marks_of (take l.value-index l.values) l.set
