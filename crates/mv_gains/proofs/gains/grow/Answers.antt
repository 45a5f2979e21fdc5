use Rattle.std.proofs.Common.{◌∙◌, List, [], ◌∷◌, ◌++◌, refl, ap}
use Rattle.mv_divide.specs.declared.part.Part.{Part}
use Rattle.mv_gains.proofs.Renewal.{gains_grown}
use Rattle.mv_gains.proofs.gains.grow.Goals as goal

pub returns-clause-gains : goal.returns-clause-gains
returns-clause-gains c =
    gains_grown c.args.kept.now _ c.requires (c.in_ok-push.ensures.items ∙ ap (λ (x : List Part). c.args.kept.now.covers.items ++ x ∷ []) c.new.ensures) c.in_ok-push-2.ensures.items refl refl
