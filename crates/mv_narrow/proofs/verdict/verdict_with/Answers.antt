-- The flexibility decides, or gives up.
use Rattle.std.proofs.Common.{sym, subst}
use Rattle.std.proofs.lemmas.Result.{IfOk-weaker}
use Rattle.mv_narrow.specs.Verdicts.{IsNarrowVerdict}
use Rattle.mv_narrow.proofs.Judging.{decided, over_fanins, undecided}
use Rattle.mv_narrow.proofs.verdict.verdict_with.Goals as goal

pub returns-in-Ok : goal.returns-in-Ok
returns-in-Ok c = λ net n d u budget old here table reads.
    let fact = c.in-Ok.ensures.ok net here.window n budget here.flex (over_fanins net n old c.args.new.now table reads) old table in
    subst (IsNarrowVerdict net n d u budget old c.args.new.now) (sym c.of_verdict.ensures)
    (decided net n d u budget old c.args.new.now here.window here.is here.below here.narrow c.in-Ok.verdict fact)

pub returns-in-Err : goal.returns-in-Err
returns-in-Err c =
    IfOk-weaker c.of_stop.result _ _
    (λ verdict e net n d u budget old here table reads.
    undecided net n d u budget old c.args.new.now here.window here.is here.below c.in-Err.stop verdict (c.in-Err.ensures.err net here.window n budget here.flex) e)
    c.of_stop.ensures
