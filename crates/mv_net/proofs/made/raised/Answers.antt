-- A name that some net has is one more.
use Rattle.std.proofs.Common.{◌≡◌, ◌∙◌, ◌+◌, true, sym, ap, subst, arith}
use Rattle.mv_net.specs.Fresh.{is_taken, AreMade}
use Rattle.mv_net.proofs.MadeNames.{made_next}
use Rattle.mv_net.proofs.made.raised.Goals as goal

pub loop-number-preserved : goal.loop-number-preserved
loop-number-preserved c = λ nets are front.
    let taken : is_taken nets (c.loop-number.number + 1) ≡ true = ap (λ k. is_taken nets (k + 1)) (sym c.from.ensures) ∙ (sym (c.in_ok-is_made.ensures nets are) ∙ c.if-not-branch.false) in
    made_next nets c.loop-number.number (c.loop-number.invariant nets are front) taken

pub returns : goal.returns
returns c = λ nets are front. subst (AreMade nets) (omega (arith, c.loop-number-test.false, c.loop-number.auto.number-end)) (c.loop-number.invariant nets are front)
