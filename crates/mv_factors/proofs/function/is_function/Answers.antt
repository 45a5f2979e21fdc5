use Rattle.std.proofs.Common.{arith}
use Rattle.std.proofs.lemmas.Bool.{OnTrue_at, OnTrue_from}
use Rattle.std.proofs.lemmas.Result.{IfOk-weaker}
use Rattle.mv_base.specs.declared.limits.TheConstants.{MAX_VALUES}
use Rattle.mv_factors.proofs.Giving.{apart_before, apart_more, below_along, function_by, grows_then}
use Rattle.mv_factors.proofs.function.is_function.Goals as goal

pub returns-in-Ok-true-are_below-clause-function : goal.returns-in-Ok-true-are_below-clause-function
returns-in-Ok-true-are_below-clause-function c =
    function_by _ _ c.args.var c.loop-value.value c.loop-value.invariant.total c.loop-value.invariant.apart
    (below_along c.loop-value.diagrams.counts _ c.args.var c.loop-value.value c.loop-value.invariant.keeps.counts
    (OnTrue_at c.in-Ok-true-are_below.field-0-test c.in-Ok-true-are_below.ensures.below))

pub loop-value-preserved : goal.loop-value-preserved
loop-value-preserved c =
    let first = grows_then _ _ _ c.loop-value.invariant.keeps c.are_below.ensures.keeps in
    record {
      keeps = grows_then _ _ _ first c.is_apart.ensures.keeps;
      total = c.loop-value.invariant.total;
      apart =
          let value = c.loop-value.value in
          apart_more _ _ c.args.var value c.loop-value.invariant.apart
          (apart_before c.args.diagrams.now c.are_below.new.diagrams c.args.set c.args.var value first c.requires.held
          (OnTrue_at c.in-Ok-true-is_apart.field-0-test c.in-Ok-true-is_apart.ensures.apart));
    }

pub returns-clause-function : goal.returns-clause-function
returns-clause-function c =
    IfOk-weaker c.are_below-2.result _ _
    (λ is below. OnTrue_from is _
    (λ yes. function_by _ _ c.args.var MAX_VALUES c.loop-value.invariant.total
    (λ v low less. c.loop-value.invariant.apart v low (omega arith))
    (below_along c.loop-value.diagrams.counts _ c.args.var MAX_VALUES c.loop-value.invariant.keeps.counts (OnTrue_at yes below))))
    c.are_below-2.ensures.below
