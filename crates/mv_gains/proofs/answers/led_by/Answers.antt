use Rattle.std.proofs.Common.{◌∙◌, Some, sym, ap}
use Rattle.mv_gains.proofs.Answered.{led_here}
use Rattle.mv_gains.proofs.answers.led_by.Goals as goal

pub returns : goal.returns
returns c =
    let at = c.in-Some-default-Some in
    led_here c.args.answers.now at._symbol.now at.searched c.args.best c.in_ok-copied.field-0 (at.ensures.value ∙ ap Some at.field-0-1-is) c.if-not-searched.false (c.in-Some.is ∙ ap Some (sym c.in_ok-copied.ensures))
