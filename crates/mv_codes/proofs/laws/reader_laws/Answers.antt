use Rattle.mv_codes.proofs.Encoded.{coded_allows, coded_over, coded_reads}
use Rattle.mv_codes.proofs.laws.reader_laws.Goals as goal

pub returns : goal.returns
returns c = record { allows = coded_allows; formed = coded_over; reads = coded_reads }
