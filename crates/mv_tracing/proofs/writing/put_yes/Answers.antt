-- The names of the nets and the lines of the steps, behind the word.
use Rattle.mv_tracing.proofs.Steps.{puts_names, yes_cut, yes_put}
use Rattle.mv_tracing.proofs.writing.put_yes.Goals as goal

pub returns-in-Err : goal.returns-in-Err
returns-in-Err g c = puts_names c.args.net.now c.args.run.now _ _ _ _ _ c.requires.shown c.of-page.ensures c.in-Err.ensures

pub returns-in-Err-put_steps : goal.returns-in-Err-put_steps
returns-in-Err-put_steps g c =
    yes_cut c.args.net.now c.args.run.now _ _ _ _ _ _ c.of-page.ensures c.in-Ok.ensures _ c.in-Err-put_steps.ensures

pub returns : goal.returns
returns g c =
    yes_put c.args.net.now c.args.run.now _ _ _ _ _ _ c.of-page.ensures c.in-Ok.ensures _ _ c.in-Ok-put_steps.ensures c.hand_on.ensures.appends
