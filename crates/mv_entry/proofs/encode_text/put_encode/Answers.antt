use Rattle.std.proofs.Common.{[], ◌∷◌, ◌++◌, map, length, decimal, refl}
use Rattle.mv_base.proofs.Gains.{start, next, stop, last}
use Rattle.mv_page.proofs.Adding.{adds}
use Rattle.mv_lex.specs.Text.{spaced}
use Rattle.mv_entry.specs.Entries.{code_word}
use Rattle.mv_entry.proofs.Texts.{encode-text}
use Rattle.mv_entry.proofs.encode_text.put_encode.Goals as goal

pub returns-in_err-put : goal.returns-in_err-put
returns-in_err-put g c =
    let behind = spaced c.args.names.now ++ (spaced (map code_word c.args.list.now) ++ 10 ∷ []) in
    let number = decimal (length c.args.names.now) in
    let text = encode-text c.args.net.now number c.args.names.now (map code_word c.args.list.now) in
    stop adds (spaced (c.args.net.now ∷ []) ++ (spaced (number ∷ []) ++ behind)) _ _ (start adds _ _) text c.in_err-put.ensures c.from_residual.ensures.1

pub returns-in_err-put_word : goal.returns-in_err-put_word
returns-in_err-put_word g c =
    let behind = spaced c.args.names.now ++ (spaced (map code_word c.args.list.now) ++ 10 ∷ []) in
    let number = decimal (length c.args.names.now) in
    let text = encode-text c.args.net.now number c.args.names.now (map code_word c.args.list.now) in
    let at = next adds (start adds _ _) text c.in_ok-put.ensures in
    stop adds (spaced (number ∷ []) ++ behind) _ _ at refl c.in_err-put_word.ensures c.from_residual-in_err-put_word.ensures.1

pub returns-in_err-put_number : goal.returns-in_err-put_number
returns-in_err-put_number g c =
    let behind = spaced c.args.names.now ++ (spaced (map code_word c.args.list.now) ++ 10 ∷ []) in
    let text = encode-text c.args.net.now (decimal (length c.args.names.now)) c.args.names.now (map code_word c.args.list.now) in
    let at = next adds (start adds _ _) text c.in_ok-put.ensures in
    stop adds behind _ _ (next adds at refl c.in_ok-put_word.ensures) refl c.in_err-put_number.ensures c.from_residual-in_err-put_number.ensures.1

pub returns-in_err-put_names : goal.returns-in_err-put_names
returns-in_err-put_names g c =
    let behind = spaced c.args.names.now ++ (spaced (map code_word c.args.list.now) ++ 10 ∷ []) in
    let text = encode-text c.args.net.now (decimal (length c.args.names.now)) c.args.names.now (map code_word c.args.list.now) in
    let at = next adds (start adds _ _) text c.in_ok-put.ensures in
    let counted = next adds (next adds at refl c.in_ok-put_word.ensures) refl c.in_ok-put_number.ensures in
    stop adds (spaced (map code_word c.args.list.now) ++ 10 ∷ []) _ _ counted refl c.in_err-put_names.ensures c.from_residual-in_err-put_names.ensures.1

pub returns-in_err-put_codes : goal.returns-in_err-put_codes
returns-in_err-put_codes g c =
    let behind = spaced c.args.names.now ++ (spaced (map code_word c.args.list.now) ++ 10 ∷ []) in
    let text = encode-text c.args.net.now (decimal (length c.args.names.now)) c.args.names.now (map code_word c.args.list.now) in
    let at = next adds (start adds _ _) text c.in_ok-put.ensures in
    let counted = next adds (next adds at refl c.in_ok-put_word.ensures) refl c.in_ok-put_number.ensures in
    stop adds (10 ∷ []) _ _ (next adds counted refl c.in_ok-put_names.ensures) refl c.in_err-put_codes.ensures c.from_residual-in_err-put_codes.ensures.1

pub returns : goal.returns
returns g c =
    let behind = spaced c.args.names.now ++ (spaced (map code_word c.args.list.now) ++ 10 ∷ []) in
    let text = encode-text c.args.net.now (decimal (length c.args.names.now)) c.args.names.now (map code_word c.args.list.now) in
    let at = next adds (start adds _ _) text c.in_ok-put.ensures in
    let counted = next adds (next adds at refl c.in_ok-put_word.ensures) refl c.in_ok-put_number.ensures in
    last adds (next adds (next adds counted refl c.in_ok-put_names.ensures) refl c.in_ok-put_codes.ensures) c.put-2.ensures
