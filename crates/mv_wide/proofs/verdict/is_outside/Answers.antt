-- The points that the cover allows, and of these those of the first set.
use Rattle.mv_wide.proofs.Judged.{outside_told}
use Rattle.mv_wide.proofs.verdict.is_outside.Goals as goal

pub returns-in-Ok-meet-clause-outside : goal.returns-in-Ok-meet-clause-outside
returns-in-Ok-meet-clause-outside c =
    outside_told c.args.factors.now c.cut.new.self c.add_cover.new.factors c.meet.new.self c.args.frame.now c.args.new.now c.as_slice.result.now
    c.requires.ready.counts c.as_slice.ensures.value c.cut.ensures.keeps c.cut.ensures.long c.in-Ok.ensures.keeps c.in-Ok.ensures.set
    c.in-Ok-meet.ensures.keeps c.in-Ok-meet.ensures.set c.is_some.result c.is_some.ensures.some
