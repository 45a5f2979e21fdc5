-- A set of one value is that of its least.
use Rattle.std.proofs.Common.{◌∙◌, sym, refl, eq-eqb}
use Rattle.std.proofs.lemmas.Bool.{false≢true}
use Rattle.mv_net.proofs.Plainness.{empty_no_one, other_no_one}
use Rattle.mv_net.proofs.questions.only_value.Goals as goal

pub returns-in-None : goal.returns-in-None
returns-in-None c = empty_no_one c.args.set (c.in-None.ensures.none.0 refl)

pub returns-else-eq : goal.returns-else-eq
returns-else-eq c =
    other_no_one c.args.set c.in-Some.value.0 c.in-Some.ensures.some
    (λ e. false≢true (sym c.if-eq.false ∙ (c.eq.ensures ∙ eq-eqb c.args.set c.one.result (e ∙ sym c.one.ensures))))
