-- The last line stands behind those that had ended.
use Rattle.std.proofs.lemmas.Result.{on_ok_weaker}
use Rattle.mv_lex.proofs.After.{finished_lines}
use Rattle.mv_lex.proofs.lexer.Lexer.finish.Goals as goal

pub returns-in-Ok-clause-lines : goal.returns-in-Ok-clause-lines
returns-in-Ok-clause-lines c =
    on_ok_weaker c.give_line.result (λ l. finished_lines c.args.self _ _ (rw c.in-Ok.ensures.ok at l)) c.give_line.ensures.lines
