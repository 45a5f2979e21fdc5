use Rattle.std.proofs.Common.{◌∙◌, ap}
use Rattle.mv_base.specs.Set.{minus}
use Rattle.mv_alike.proofs.Leaving.{least_left}
use Rattle.mv_alike.proofs.given.least_ungiven.Goals as goal

pub returns : goal.returns
returns c =
    least_left c.args.values c.given.result c.minus.result c.args.cover.now c.least.result (c.minus.ensures ∙ ap (λ s. minus s c.given.result) c.full.ensures) c.given.ensures
    c.least.ensures.none c.least.ensures.some c.least.ensures.least
