use Rattle.std.proofs.Common.{arith}
use Rattle.mv_wide.proofs.Narrowing.{chosen_end, chosen_more, none_left}
use Rattle.mv_wide.proofs.choices.narrow_by_all.Goals as goal

pub returns-then-not-narrow_by-clause-none : goal.returns-then-not-narrow_by-clause-none
returns-then-not-narrow_by-clause-none c = λ counts test are listed p range passes all.
    none_left counts c.args.vars.now test c.args.left_out c.args.cube.now c.loop-literal.literal-index c.literal-item.result c.loop-literal-test.true
    c.literal-item.is (λ in_vars in_counts q over first holds.
    c.if-not-narrow_by.ensures.none counts _ (c.loop-literal.invariant counts test are) in_vars in_counts q over first holds)
    listed p range passes all

pub loop-literal-preserved : goal.loop-literal-preserved
loop-literal-preserved c = λ counts test are.
    chosen_more counts c.narrow_by.new.choices.items c.args.vars.now test c.args.left_out c.args.cube.now c.loop-literal.literal-index c.literal-item.result
    c.loop-literal-test.true c.literal-item.is
    (c.if-not-narrow_by.ensures.some counts _ (c.loop-literal.invariant counts test are))

pub returns-clause-some : goal.returns-clause-some
returns-clause-some c = λ counts test are.
    chosen_end counts c.loop-literal.choices.items c.args.vars.now test c.args.left_out c.args.cube.now c.loop-literal.literal-index
    (omega (arith, c.loop-literal-test.false)) (c.loop-literal.invariant counts test are)
