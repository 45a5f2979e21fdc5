-- A third word joins the command, or none.
use Rattle.std.proofs.Common.{◌∙◌, ap₂}
use Rattle.std.proofs.lemmas.Result.{IfOk-weaker}
use Rattle.clap.specs.Simple.{with_rule}
use Rattle.mv_command_line.proofs.Commands.{two_words_given, three_words_given}
use Rattle.mv_command_line.proofs.reading.command.Goals as goal

pub returns-then-third : goal.returns-then-third
returns-then-third c =
    IfOk-weaker c.arg.result _ _
    (λ r h. h.shape c.word_given.ensures.local ∙ (ap₂ with_rule c.in_ok-command.ensures c.word_given.ensures.rule ∙ three_words_given c.args.third c.if-third.true))
    c.arg.ensures

pub returns-else-third : goal.returns-else-third
returns-else-third c = c.in_ok-command.ensures ∙ two_words_given c.args.third c.if-third.false
