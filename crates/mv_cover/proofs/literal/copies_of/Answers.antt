use Rattle.std.proofs.Common.{◌∙◌}
use Rattle.std.proofs.lemmas.List.{take_all}
use Rattle.mv_cover.proofs.literal.copies_of.Goals as goal

pub returns : goal.returns
returns c = c.loop-l.invariant ∙ take_all c.loop-l.l-index c.args.lits.now c.loop-l-test.false
