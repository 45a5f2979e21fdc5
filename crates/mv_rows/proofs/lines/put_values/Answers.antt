use Rattle.std.proofs.Common.{◌≡◌, ◌∙◌, refl, arith}
use Rattle.mv_rows.proofs.Orders.{fit_length}
use Rattle.mv_rows.proofs.Values.{AddsLines-none, values_more}
use Rattle.mv_rows.proofs.lines.put_values.Goals as goal

pub loop-value-init : goal.loop-value-init
loop-value-init c = AddsLines-none _ _ refl

pub put_value-requires-clause-place : goal.put_value-requires-clause-place
put_value-requires-clause-place c = omega (arith, fit_length c.args.frame.now.columns c.args.sets.now c.requires.sets)

pub loop-value-preserved : goal.loop-value-preserved
loop-value-preserved c = values_more _ _ _ _ _ _ _ c.loop-value.invariant c.in-Ok.ensures.lines

pub returns-clause-lines : goal.returns-clause-lines
returns-clause-lines c =
    let all : c.loop-value.value ≡ c.count-count.result = omega arith in
    rw (← (all ∙ c.count-count.ensures.value)) c.loop-value.invariant
