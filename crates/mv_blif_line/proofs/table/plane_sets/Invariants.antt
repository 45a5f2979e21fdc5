use Rattle.std.proofs.Common.{◌≡◌, take}
use Rattle.std.specs.Prelude.{map}
use Rattle.mv_blif_line.specs.Tables.{byte_set}
use Rattle.mv_blif_line.proofs.table.plane_sets.Given as goal

abbrev pub invariant-loop-byte : goal.invariant-loop-byte
invariant-loop-byte l = l.sets ≡ map byte_set (take l.byte-index l.plane)
