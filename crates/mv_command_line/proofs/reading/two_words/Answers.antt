-- The command is given part by part.
use Rattle.std.proofs.Common.{◌≡◌, ◌∙◌, ap, ap₂, true}
use Rattle.clap.specs.Simple.{app_of, app_of_fields, on_top, with_rule, Shape}
use Rattle.mv_command_line.proofs.Commands.{start_given}
use Rattle.mv_command_line.proofs.reading.two_words.Goals as goal

pub returns : goal.returns
returns c =
    let start : app_of c.disable_help_flag.result ≡ start_given =
    ap app_of_fields c.disable_help_flag.ensures ∙ ap (on_top (λ (s : Shape). record s { disable_help_flag = true })) c.new.ensures.app in
    let one = c.in_ok-arg.ensures.shape c.budget_option.ensures.local ∙ ap₂ with_rule start c.budget_option.ensures.rule in
    let two = c.in_ok-arg-2.ensures.shape c.flag_option.ensures.local ∙ ap₂ with_rule one c.flag_option.ensures.rule in
    let three = c.in_ok-arg-3.ensures.shape c.flag_option-2.ensures.local ∙ ap₂ with_rule two c.flag_option-2.ensures.rule in
    let four = c.in_ok-arg-4.ensures.shape c.word_given.ensures.local ∙ ap₂ with_rule three c.word_given.ensures.rule in
    c.in_ok-command.ensures.shape c.word_given-2.ensures.local ∙ ap₂ with_rule four c.word_given-2.ensures.rule
