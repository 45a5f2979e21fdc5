-- Each law is a lemma.
use Rattle.mv_entries_back.proofs.Printed.{steps-faultless, steps-back}
use Rattle.mv_entries_back.proofs.laws.certificate_laws.Goals as goal

pub returns : goal.returns
returns c = record { faultless = steps-faultless; steps = steps-back }
