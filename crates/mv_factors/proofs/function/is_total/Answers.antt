use Rattle.std.proofs.lemmas.Bool.{OnTrue_from}
use Rattle.mv_factors.proofs.Giving.{total_by}
use Rattle.mv_factors.proofs.function.is_total.Goals as goal

pub returns-clause-total : goal.returns-clause-total
returns-clause-total c =
    OnTrue_from c.same.result _
    (λ yes. total_by c.args.diagrams.now c.exists.new.self c.args.set c.in-Ok.some c.one.result c.args.var
    c.exists.ensures.keeps.counts c.in-Ok.ensures.set (c.same.ensures.sets.0 yes) c.one.ensures.set)
