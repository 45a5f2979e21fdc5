-- The points at which the old table allows some value, and of these those at which the cover allows none.
use Rattle.std.proofs.Common.{◌∙◌}
use Rattle.mv_wide.proofs.Judged.{lost_told}
use Rattle.mv_wide.proofs.verdict.is_lost.Goals as goal

pub returns-in-Ok-meet-clause-lost : goal.returns-in-Ok-meet-clause-lost
returns-in-Ok-meet-clause-lost c =
    lost_told c.put_choices.new.factors c.complement.new.self c.meet.new.self c.args.frame.now c.args.new.now
    (c.in-Ok.ensures.keeps.counts ∙ c.requires.ready.counts) c.in-Ok.ensures.old c.in-Ok.ensures.new c.in-Ok-complement.ensures.keeps
    c.in-Ok-complement.ensures.set c.in-Ok-meet.ensures.keeps c.in-Ok-meet.ensures.set c.is_some.result c.is_some.ensures.some
