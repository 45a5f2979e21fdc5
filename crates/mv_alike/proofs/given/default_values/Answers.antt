use Rattle.std.proofs.Common.{◌∙◌, sym, ap}
use Rattle.mv_base.specs.Set.{has}
use Rattle.mv_base.proofs.Sets.{has-empty}
use Rattle.mv_cover.specs.Covers.{default_gives}
use Rattle.mv_alike.proofs.given.default_values.Goals as goal

pub returns-in-None : goal.returns-in-None
returns-in-None c = λ v. ap (λ s. has s v) c.empty.ensures ∙ (has-empty v ∙ sym (ap (λ d. default_gives d v) c.in-None.is))
