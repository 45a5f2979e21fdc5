use Rattle.std.proofs.Common.{◌<◌, length, sym, subst}
use Rattle.mv_diagram.specs.declared.cube.Literal.{Literal}
use Rattle.mv_diagram.proofs.Cubing.{on_true_is, on_false_is, some_more, none_in_cube}
use Rattle.mv_diagram.proofs.cube.all_some.Goals as goal

pub returns-then-not-has_some-clause-none : goal.returns-then-not-has_some-clause-none
returns-then-not-has_some-clause-none c =
    none_in_cube c.args.table.now.counts.items c.args.literals.now c.loop-literal.literal-index c.literal-item.result
    (subst (λ (x : Literal). x.var < length c.args.table.now.counts.items) (sym c.literal-item.is) (c.requires c.loop-literal.literal-index c.literal-item.result c.loop-literal-test.true)) c.loop-literal-test.true c.literal-item.is
    (on_false_is c.has_some.result _ c.if-not-has_some.true c.has_some.ensures.none)

pub loop-literal-preserved : goal.loop-literal-preserved
loop-literal-preserved c =
    some_more c.args.table.now.counts.items c.args.literals.now c.loop-literal.literal-index c.literal-item.result c.loop-literal.invariant c.loop-literal-test.true c.literal-item.is
    (on_true_is c.has_some.result _ c.if-not-has_some.false c.has_some.ensures.some)
