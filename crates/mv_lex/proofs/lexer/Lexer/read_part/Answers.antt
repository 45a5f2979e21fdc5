-- The first byte is read, or all letters at the front; a byte's fault is the first fault of all bytes.
use Rattle.std.proofs.Common.{arith}
use Rattle.mv_lex.proofs.Letters.{letters_read, first_read, first_told}
use Rattle.mv_lex.proofs.lexer.Lexer.read_part.Goals as goal

pub returns-in-Ok-clause-ok : goal.returns-in-Ok-clause-ok
returns-in-Ok-clause-ok c =
    first_read _ _ _ _ _ c.requires c.in-Ok.ensures.clean c.in-Ok.ensures.ok c.in-Ok.ensures.lines

pub returns-in-Err-clause-fault : goal.returns-in-Err-clause-fault
returns-in-Err-clause-fault c =
    λ bytes h. first_told c.args.self.now c.args.rest.now bytes c.in-Err.fault c.requires h c.in-Err.ensures.err

pub returns-in-Ok-add_letters-clause-ok : goal.returns-in-Ok-add_letters-clause-ok
returns-in-Ok-add_letters-clause-ok c =
    rw c.in-Ok-add_letters.ensures.ok (letters_read _ _ _ (c.letters_in-count.ensures.letters (omega arith)))
