use Rattle.std.proofs.Common.{[], ◌∷◌, subst}
use Rattle.mv_cover.specs.Literal.{Lit}
use Rattle.mv_gains.specs.Answers.{Forgets}
use Rattle.mv_gains.proofs.Answered.{forgets_one}
use Rattle.mv_gains.proofs.answers.forget.Goals as goal

pub returns : goal.returns
returns c =
    subst (λ (l : Lit). Forgets ((l ∷ []) ∷ []) c.args.answers.now (record { known = c.insert.new.self })) c.in_ok-copy.ensures
    (forgets_one c.in_ok-copy.field-0 c.args.answers.now (record { known = c.insert.new.self }) c.in_ok-insert.ensures.updates)
