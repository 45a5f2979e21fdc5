-- Lines that are copies give the values that they give together.
use Rattle.std.proofs.Common.{◌∙◌, ap, arith}
use Rattle.std.specs.Prelude.{◌==◌}
use Rattle.mv_net.proofs.Plainness.{copies_answer}
use Rattle.mv_net.proofs.questions.are_copies.Goals as goal

pub returns : goal.returns
returns c =
    copies_answer c.args.values c.args.net.0 c.values_given.result c.args.lines.now c.eq.result (omega arith) c.values_given.ensures (c.all_copy.ensures.0 c.if-not-all_copy.false) (c.eq.ensures ∙ ap (λ t. c.values_given.result == t) c.full.ensures)
