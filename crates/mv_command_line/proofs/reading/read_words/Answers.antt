-- The words ask for the task that the first of them names.
use Rattle.std.proofs.Common.{◌∙◌, subst}
use Rattle.mv_command_line.specs.Answers.{Answers}
use Rattle.mv_command_line.proofs.Named.{no_words, words_ask}
use Rattle.mv_command_line.proofs.reading.read_words.Goals as goal

pub returns-then-is_empty : goal.returns-then-is_empty
returns-then-is_empty c = no_words c.args.words.now c.if-is_empty.ensures

pub returns : goal.returns
returns c =
    subst (λ o. Answers o c.task_named.result)
    (words_ask c.args.words.now _ c.if-is_empty.ensures (c.as_bytes.ensures.value ∙ c.first_word.ensures)) c.task_named.ensures
