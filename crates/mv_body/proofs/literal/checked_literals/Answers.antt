use Rattle.mv_body.proofs.Numbers.{readable_at}
use Rattle.mv_body.proofs.Lines.{literals_more, literals_untidy}
use Rattle.mv_body.proofs.literal.checked_literals.Goals as goal

pub is_literal-requires : goal.is_literal-requires
is_literal-requires c =
    readable_at c.args.net.now c.args.lits.now c.loop-literal.literal-index c.literal-item.result _ c.well_formed-2.ensures c.requires c.loop-literal-test.true c.literal-item.is c.in_ok-numbered.ensures

pub returns-then-not-is_literal : goal.returns-then-not-is_literal
returns-then-not-is_literal c =
    literals_untidy c.args.net.now.nets c.args.lits.now c.loop-literal.literal-index c.literal-item.result _ c.loop-literal-test.true c.literal-item.is c.in_ok-numbered.ensures c.if-not-is_literal.ensures

pub loop-literal-preserved : goal.loop-literal-preserved
loop-literal-preserved c =
    literals_more c.args.net.now.nets c.args.lits.now c.loop-literal.literal-index c.literal-item.result c.loop-literal.said.items _ _ c.loop-literal-test.true c.literal-item.is c.loop-literal.invariant c.in_ok-numbered.ensures c.if-not-is_literal.ensures c.in_ok-push.ensures.items
