-- Each law is a lemma.
use Rattle.mv_rules_back.proofs.Printing.{applied_printable, replayed_printable}
use Rattle.mv_rules_back.proofs.laws.rule_laws.Goals as goal

pub returns : goal.returns
returns c = record { one = applied_printable; all = replayed_printable }
