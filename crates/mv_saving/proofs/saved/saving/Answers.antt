-- The saving is what the joins have more than what comes in their place.
use Rattle.std.proofs.Common.{◌≡◌, ◌+◌, List, length, subst}
use Rattle.mv_cover.specs.Literal.{Lit}
use Rattle.mv_saving.specs.Saving.{literals, joined}
use Rattle.mv_saving.proofs.Counting.{saving_is}
use Rattle.mv_saving.proofs.saved.saving.Goals as goal

pub returns : goal.returns
returns c =
    saving_is c.args.cover.now c.args.divisor.now c.in_ok-quotient.quotient.items c.saved.result
    (record { formed = c.cubes.ensures.formed; distinct = c.requires.cover }) (record { formed = c.saved.ensures.terms; distinct = c.requires.divisor }) c.in_ok-quotient.ensures
    (subst (λ (qs : List (List Lit)). c.saved.result + (literals qs + length qs) ≡ joined c.args.divisor.now qs) c.as_slice.ensures.value c.saved.ensures.saved)
