-- The law is a lemma.
use Rattle.mv_chosen.proofs.OneChoice.{same_choices}
use Rattle.mv_chosen.proofs.laws.one_choice_laws.Goals as goal

pub returns : goal.returns
returns c = record { same = λ a net nets formed one other alike refines. same_choices a formed one net nets other alike refines }
