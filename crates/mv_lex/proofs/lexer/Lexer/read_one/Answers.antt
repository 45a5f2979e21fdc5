-- The word of one byte ends at the space behind it.
use Rattle.std.proofs.Common.{◌∙◌, ◌+◌, ap}
use Rattle.std.proofs.lemmas.Result.{on_ok_weaker}
use Rattle.mv_lex.specs.Reading.{Reading}
use Rattle.mv_lex.proofs.Letters.{one_read}
use Rattle.mv_lex.proofs.lexer.Lexer.read_one.Goals as goal

pub returns-clause-ok : goal.returns-clause-ok
returns-clause-ok c =
    λ lines. on_ok_weaker c.pass.result (λ e. one_read c.args.self.now _ lines c.args.bytes.now c.requires.between c.requires.one (e ∙ ap (λ (s : Reading). record s { size = s.size + 1 }) c.in_ok-add_word.ensures.ok)) c.pass.ensures.ok
