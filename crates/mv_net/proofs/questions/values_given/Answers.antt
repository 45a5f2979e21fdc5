-- The values of one line more.
use Rattle.std.proofs.Common.{◌∙◌, ap}
use Rattle.mv_base.specs.Set.{has, join}
use Rattle.mv_base.proofs.Sets.{has-empty}
use Rattle.mv_net.proofs.Plainness.{given_more}
use Rattle.mv_net.proofs.questions.values_given.Goals as goal

pub loop-line-init : goal.loop-line-init
loop-line-init c = λ v. ap (λ s. has s v) c.empty-given.ensures ∙ has-empty v

pub loop-line-preserved : goal.loop-line-preserved
loop-line-preserved c = λ v.
    given_more c.args.lines.now c.loop-line.line-index v c.loop-line.given c.join-given.result c.line-item.result c.loop-line-test.true c.line-item.is (c.join-given.ensures ∙ ap (λ s. join c.loop-line.given s) c.get.ensures) (c.loop-line.invariant v)
