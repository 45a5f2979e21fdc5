-- Anything but a line, a default and the end is refused.
use Rattle.std.proofs.Common.{◌∙◌, inr, sym, ap}
use Rattle.mv_step.specs.Certificates.{fault_at}
use Rattle.mv_step.specs.Reading.{place_in}
use Rattle.mv_step.proofs.Refusals.{refused-before}
use Rattle.mv_step.proofs.reader.body_line.Goals as goal

pub returns-in_default-clause-fault : goal.returns-in_default-clause-fault
returns-in_default-clause-fault c =
    let rule = c.args.rule in
    let n = c.args.line.now.number in
    inr (ap (fault_at n (place_in rule.line rule.default)) (sym c.in_ok-line.ensures) ∙ refused-before n rule.line rule.default c.in_ok-line.field-0 (sym c.is_some.ensures ∙ c.if-is_some.false) c.in_default.not-Line c.in_default.not-Default c.in_default.not-End)
