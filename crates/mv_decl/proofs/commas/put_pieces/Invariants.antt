use Rattle.std.proofs.Common.{◌≡◌, ◌++◌, drop}
use Rattle.mv_decl.specs.Line.{pieces_of}
use Rattle.mv_decl.proofs.Pieces.{pieces_from}
use Rattle.mv_decl.proofs.commas.put_pieces.Given as goal

abbrev pub invariant-loop-byte : goal.invariant-loop-byte
invariant-loop-byte l = l.pieces ++ pieces_from l.front.items (drop l.byte-index l.bytes) ≡ l.fn.pieces ++ pieces_of l.bytes
