-- Reset table by reset table.
use Rattle.std.proofs.Common.{◌∙◌, sym, subst}
use Rattle.std.proofs.lemmas.List.{take_all}
use Rattle.std.proofs.lemmas.List.Elements.{All-more, All-same}
use Rattle.std.proofs.lemmas.Result.{err_from_is_err_and}
use Rattle.mv_acyclic.specs.Sound.{StandsAlone}
use Rattle.mv_acyclic.proofs.ResetValues.{reading_told}
use Rattle.mv_acyclic.proofs.Turns.{model_below}
use Rattle.mv_acyclic.proofs.alone.check_alone.Goals as goal

pub least_above-requires-clause-below : goal.least_above-requires-clause-below
least_above-requires-clause-below c = model_below c.args.model.now c.args.columns.now c.requires.once c.requires.columns

pub returns-in_err-check_reset-clause-fault : goal.returns-in_err-check_reset-clause-fault
returns-in_err-check_reset-clause-fault c =
    let e = err_from_is_err_and c.from_residual-in_err-check_reset.result c.from_residual-in_err-check_reset.ensures.1 in
    rw (e.1, e.2)
    (reading_told c.args.model.now c.as_slice-reset-items.result.now c.loop-reset.reset-index c.reset-item.result _
    c.as_slice-reset-items.ensures c.loop-reset-test.true c.reset-item.is c.loop-reset.invariant c.in_err-check_reset.ensures.fault)

pub loop-reset-preserved : goal.loop-reset-preserved
loop-reset-preserved c =
    let alone = StandsAlone c.args.model.now in
    All-more alone c.as_slice-reset-items.result.now c.loop-reset.reset-index c.reset-item.result c.loop-reset-test.true c.loop-reset.invariant
    (subst alone c.reset-item.is c.in_ok-check_reset.ensures.alone)

pub returns-clause-alone : goal.returns-clause-alone
returns-clause-alone c =
    let items = c.as_slice-reset-items.result.now in
    All-same (StandsAlone c.args.model.now) _ _
    (sym (take_all c.loop-reset.reset-index items c.loop-reset-test.false ∙ c.as_slice-reset-items.ensures)) c.loop-reset.invariant
