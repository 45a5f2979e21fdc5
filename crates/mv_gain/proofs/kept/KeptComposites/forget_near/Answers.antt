-- All readers are forgotten behind the loop.
use Rattle.std.proofs.Common.{arith, subst}
use Rattle.std.proofs.lemmas.List.{take_all}
use Rattle.mv_gain.proofs.Behind.{right_behind}
use Rattle.mv_gain.proofs.Forgetting.{part_forgets, forgets_more}
use Rattle.mv_gain.specs.Pairs.{ForgetsEach}
use Rattle.mv_gain.proofs.kept.KeptComposites.forget_near.Goals as goal

pub loop-reader-preserved : goal.loop-reader-preserved
loop-reader-preserved c =
    forgets_more _ _ _ _ (record { 0 = 0 }) _ _ _ c.loop-reader-test.true c.loop-reader.invariant
    (part_forgets _ _ _ _ _ c.in_ok-forget_net-2.ensures c.in_ok-mark.ensures)

pub returns : goal.returns
returns c =
    let all = take_all c.loop-reader.reader-index c.readers-reader-items.result.now (omega (arith, c.loop-reader-test.false)) in
    right_behind _ _ _ c.args.self.now _ c.requires.right c.readers-reader-items.ensures
    (subst (λ l. ForgetsEach c.args.net.now.nets c.args.n.0 l c.args.self.now c.loop-reader.self) all c.loop-reader.invariant)
