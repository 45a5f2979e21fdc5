-- The bytes that came into the room are the piece.
use Rattle.std.proofs.Common.{arith}
use Rattle.std.proofs.lemmas.Grind.{common_steps}
use Rattle.mv_files.proofs.FileReads.{got_piece}
use Rattle.mv_files.proofs.read.read_piece.Goals as goal

pub returns-in-Ok-extend_from_slice-clause-got : goal.returns-in-Ok-extend_from_slice-clause-got
returns-in-Ok-extend_from_slice-clause-got g c =
    got_piece _ _ c.next.new.room _ _ _ c.in-Ok.count c.in-Ok.ensures.given c.in-Ok.ensures.bound (omega arith) c.requires (grind (arith, common_steps))
