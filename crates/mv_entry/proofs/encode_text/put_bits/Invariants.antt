use Rattle.std.proofs.Common.{drop, map}
use Rattle.mv_base.proofs.Gains.{Going}
use Rattle.mv_page.specs.Page.{AddsPiece, paged}
use Rattle.mv_entry.specs.Entries.{bit_byte}
use Rattle.mv_entry.proofs.encode_text.put_bits.Given as goal

abbrev pub invariant-loop-bit : goal.invariant-loop-bit
invariant-loop-bit g l =
    Going AddsPiece (paged (g.E.Sink.state l.fn.sink) l.fn.page) (paged (g.E.Sink.state l.sink) l.page) (map bit_byte (drop l.bit-index l.bits)) (map bit_byte l.bits)
