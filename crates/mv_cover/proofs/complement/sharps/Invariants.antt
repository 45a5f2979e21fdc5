use Rattle.std.proofs.Common.{◌≡◌, ◌≤◌, length}
use Rattle.mv_base.specs.declared.limits.TheConstants.{MAX_COMPLEMENT_CUBES}
use Rattle.mv_cover.specs.Complement.{sharps_of}
use Rattle.mv_cover.proofs.complement.sharps.Given as goal

abbrev pub invariant-loop-cube : goal.invariant-loop-cube
invariant-loop-cube l =
    record { list : l.left.items ≡ sharps_of l.counts l.other l.yielded; narrow : length l.left.items ≤ MAX_COMPLEMENT_CUBES }
