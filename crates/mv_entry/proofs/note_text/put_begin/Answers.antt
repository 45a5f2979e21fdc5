use Rattle.std.proofs.Common.{[], ◌∷◌, ◌++◌, refl, sym, ap}
use Rattle.mv_base.proofs.Gains.{start, next, stop, last}
use Rattle.mv_page.proofs.Adding.{adds}
use Rattle.mv_lex.specs.Text.{spaced}
use Rattle.mv_entry.specs.Entries.{command_word, operands}
use Rattle.mv_entry.proofs.Texts.{begin-text}
use Rattle.mv_entry.proofs.note_text.put_begin.Goals as goal

pub returns-in_err-put : goal.returns-in_err-put
returns-in_err-put g c =
    let command = c.args.command.now in
    stop adds (spaced (command_word command ∷ []) ++ (spaced (operands command) ++ 10 ∷ [])) _ _ (start adds _ _) (begin-text command) c.in_err-put.ensures c.from_residual.ensures.1

pub returns-in_err-put_word : goal.returns-in_err-put_word
returns-in_err-put_word g c =
    let command = c.args.command.now in
    let rest = spaced (operands command) ++ 10 ∷ [] in
    let at = next adds (start adds _ _) (begin-text command) c.in_ok-put.ensures in
    stop adds rest _ _ at (ap (λ w. spaced (w ∷ []) ++ rest) (sym c.command_word.ensures)) c.in_err-put_word.ensures c.from_residual-in_err-put_word.ensures.1

pub returns-in_err-put_operands : goal.returns-in_err-put_operands
returns-in_err-put_operands g c =
    let command = c.args.command.now in
    let rest = spaced (operands command) ++ 10 ∷ [] in
    let at = next adds (start adds _ _) (begin-text command) c.in_ok-put.ensures in
    let behind = next adds at (ap (λ w. spaced (w ∷ []) ++ rest) (sym c.command_word.ensures)) c.in_ok-put_word.ensures in
    stop adds (10 ∷ []) _ _ behind refl c.in_err-put_operands.ensures c.from_residual-in_err-put_operands.ensures.1

pub returns : goal.returns
returns g c =
    let command = c.args.command.now in
    let rest = spaced (operands command) ++ 10 ∷ [] in
    let at = next adds (start adds _ _) (begin-text command) c.in_ok-put.ensures in
    let behind = next adds at (ap (λ w. spaced (w ∷ []) ++ rest) (sym c.command_word.ensures)) c.in_ok-put_word.ensures in
    last adds (next adds behind refl c.in_ok-put_operands.ensures) c.put-2.ensures
