-- The words that `split` gives are read in turn.
use Rattle.std.proofs.Common.{◌∙◌, sym, ap, rules, tests}
use Rattle.mv_base.specs.Set.{join}
use Rattle.mv_step.proofs.Unions.{words_between, values-next, values-stop, values-whole}
use Rattle.mv_step.proofs.set.values_said.Goals as goal

pub returns-in_err-value : goal.returns-in_err-value
returns-in_err-value c =
    c.from_residual.ensures
    ∙ sym (values-stop {now = λ w. w.now} c.loop-word.yielded c.loop-word.word-iterator c.next.result c.next.new.self c.in-Some.word c.loop-word.yielded_by c.next.ensures.steps c.in-Some.is c.in_err-value.ensures.value
    (words_between _ c.args.bytes.now c.into_iter-word-iterator.ensures.into_iter_gives c.split-word-items.ensures.rest c.split-word-items.ensures.done c.split-word-items.ensures.closure (λ x b q k. search (rules, tests))))

pub loop-word-preserved : goal.loop-word-preserved
loop-word-preserved c =
    values-next (λ w. w.now) c.loop-word.yielded c.in-Some.word c.loop-word.set c.in_ok-value.value c.join-set.result c.loop-word.invariant c.in_ok-value.ensures.value (c.join-set.ensures ∙ ap (λ t. join c.loop-word.set t) c.one.ensures)

pub returns : goal.returns
returns c =
    sym (values-whole {now = λ w. w.now} c.loop-word.yielded c.loop-word.word-iterator c.next.result c.next.new.self c.loop-word.set c.loop-word.invariant c.loop-word.yielded_by c.next.ensures.steps c.in-None.is
    (words_between _ c.args.bytes.now c.into_iter-word-iterator.ensures.into_iter_gives c.split-word-items.ensures.rest c.split-word-items.ensures.done c.split-word-items.ensures.closure (λ x b q k. search (rules, tests))))
