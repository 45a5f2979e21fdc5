-- A whole word and the byte that ends it are read, the blank or the line feed.
use Rattle.std.proofs.Common.{◌∙◌, ap}
use Rattle.std.proofs.lemmas.Result.{on_ok_weaker}
use Rattle.mv_lex.specs.Steps.{new_line}
use Rattle.mv_lex.proofs.Letters.{blank_ends, ends_blank, feed_ends_word}
use Rattle.mv_lex.proofs.lexer.Lexer.read_word.Goals as goal

pub returns-then-end-eq10-clause-ok : goal.returns-then-end-eq10-clause-ok
returns-then-end-eq10-clause-ok c =
    feed_ends_word _ _ _ _ _ _ c.requires.word c.if-end-eq10.true (c.in_ok-pass_line.ensures.ok ∙ ap new_line c.in_ok-add_word.ensures.ok) (rw c.in_ok-add_word.ensures.ok at c.in_ok-pass_line.ensures.lines)

pub returns-clause-ok : goal.returns-clause-ok
returns-clause-ok c =
    on_ok_weaker c.pass.result (λ e. blank_ends _ _ _ _ _ c.requires.word (ends_blank _ c.requires.end c.if-end-eq10.false) (rw c.in_ok-add_word.ensures.ok at e)) c.pass.ensures.ok
