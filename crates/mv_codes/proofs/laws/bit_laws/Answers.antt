use Rattle.mv_codes.proofs.Images.{bit_allows}
use Rattle.mv_codes.proofs.Lawful.{bit_over, bit_reads}
use Rattle.mv_codes.proofs.laws.bit_laws.Goals as goal

pub returns : goal.returns
returns c = record { allows = bit_allows; formed = bit_over; reads = bit_reads }
