-- Anything but the end is refused.
use Rattle.std.proofs.Common.{◌∙◌, inr, sym, ap}
use Rattle.mv_step.specs.Certificates.{fault_at}
use Rattle.mv_step.specs.Reading.{place_in}
use Rattle.mv_step.proofs.Refusals.{refused-behind}
use Rattle.mv_step.proofs.reader.behind_default.Goals as goal

pub returns-in_default-clause-fault : goal.returns-in_default-clause-fault
returns-in_default-clause-fault c =
    let rule = c.args.rule in
    let n = c.args.line.now.number in
    inr (ap (fault_at n (place_in rule.line rule.default)) (sym c.in_ok-said_by.ensures) ∙ refused-behind n rule.line rule.default c.in_ok-said_by.field-0 c.requires c.in_default.not-End)
