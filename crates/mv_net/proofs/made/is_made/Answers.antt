-- A name leads to a number where a net has it.
use Rattle.std.proofs.Common.{◌∙◌, is_some, ap}
use Rattle.mv_net.proofs.MadeNames.{leads_taken}
use Rattle.mv_net.proofs.made.is_made.Goals as goal

pub returns : goal.returns
returns c = λ nets are. c.is_some.ensures ∙ (ap is_some c.number.ensures ∙ leads_taken nets c.args.names.now c.bytes.result.now c.args.number are (c.bytes.ensures ∙ c.in_ok-name.ensures))
