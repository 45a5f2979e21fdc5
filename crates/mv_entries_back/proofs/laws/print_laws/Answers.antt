-- Each law is a lemma.
use Rattle.mv_entries_back.proofs.Printed.{print-faultless, print-apart}
use Rattle.mv_entries_back.proofs.laws.print_laws.Goals as goal

pub returns : goal.returns
returns c = record { faultless = print-faultless; apart = print-apart }
