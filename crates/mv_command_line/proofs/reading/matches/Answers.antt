-- Clap answers as the definition does.
use Rattle.std.proofs.Common.{◌∙◌}
use Rattle.mv_command_line.proofs.Matched.{matches_give, words_refused}
use Rattle.mv_command_line.proofs.reading.matches.Goals as goal

pub returns-in-Ok : goal.returns-in-Ok
returns-in-Ok c =
    matches_give c.args.third c.args.words.now _ c.in-Ok.matches c.in_ok-command.ensures c.in-Ok.ensures.kinds c.in-Ok.ensures.matches

pub returns : goal.returns
returns c =
    words_refused c.args.third c.args.words.now _ c.in-Err.error c.in_ok-command.ensures c.in-Err.ensures.kinds (λ e. c.in_default.not-OutOfMemory (c.kind.ensures ∙ e))
