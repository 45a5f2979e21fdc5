use Rattle.std.proofs.lemmas.Bool.{OnTrue_from}
use Rattle.mv_factors.proofs.Giving.{apart_by}
use Rattle.mv_factors.proofs.function.is_apart.Goals as goal

pub returns-clause-apart : goal.returns-clause-apart
returns-clause-apart c =
    OnTrue_from c.same.result _
    (λ yes. apart_by c.args.diagrams.now c.with_values.new.diagrams c.with_values-2.new.diagrams c.and.new.self c.args.set
    c.in-Ok.low c.in-Ok-with_values.this c.in-Ok-and.both c.zero.result c.args.var c.args.value c.full.result c.one.result
    c.with_values.ensures.keeps c.with_values-2.ensures.keeps c.and.ensures.keeps c.requires.held c.in-Ok.ensures.held
    c.full.ensures c.one.ensures c.in-Ok.ensures.set c.in-Ok-with_values.ensures.set c.in-Ok-and.ensures.set
    (c.same.ensures.sets.0 yes) c.zero.ensures.set)
