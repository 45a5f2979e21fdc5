use Rattle.std.proofs.Common.{◌∙◌, Option, sym, subst}
use Rattle.mv_meets.specs.Search.{Improves}
use Rattle.mv_meets.specs.declared.found.Found.{Found}
use Rattle.mv_gains.proofs.Answered.{behind_improves}
use Rattle.mv_gains.proofs.answers.is_better.Goals as goal

pub returns-in-Some : goal.returns-in-Some
returns-in-Some c t =
    subst (λ (o : Option Found). Improves o c.args.other.now) (sym c.in-Some.is) (behind_improves c.in-Some.found c.args.other.now (sym c.is_ahead.ensures ∙ t))
