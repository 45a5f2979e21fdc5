-- Lines with other sets agree where their cubes don't meet.
use Rattle.std.proofs.Common.{◌∙◌, sym}
use Rattle.mv_cover.proofs.Meeting.{agree_tells}
use Rattle.mv_cover.proofs.plain.agree.Goals as goal

pub returns-else-eq : goal.returns-else-eq
returns-else-eq c =
    agree_tells c.args.a.now c.args.b.now c.meet.result c.lits.result.now c.lits-else-eq.result.now (sym c.eq.ensures ∙ c.if-eq.false) c.meet.ensures c.lits.ensures.lits c.lits-else-eq.ensures.lits c.lits.ensures.formed c.lits-else-eq.ensures.formed
