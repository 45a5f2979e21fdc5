use Rattle.std.proofs.lemmas.Bool.{OnTrue_from}
use Rattle.mv_factors.proofs.Giving.{below_by}
use Rattle.mv_factors.proofs.function.are_below.Goals as goal

pub returns-clause-below : goal.returns-clause-below
returns-clause-below c =
    OnTrue_from c.same.result _
    (λ yes. below_by c.args.diagrams.now c.literal.new.self c.in-Ok.low c.one.result c.args.var c.args.value c.full.result
    c.literal.ensures.keeps.counts c.full.ensures c.in-Ok.ensures.set (c.same.ensures.sets.0 yes) c.one.ensures.set)
