use Rattle.std.proofs.Common.{◌∙◌, ◌++◌, map, codes, sym, ap}
use Rattle.mv_base.proofs.Gains.{start, next, stop, last}
use Rattle.mv_page.proofs.Adding.{adds}
use Rattle.mv_entry.specs.Entries.{bit_byte}
use Rattle.mv_entry.proofs.Texts.{code-text}
use Rattle.mv_entry.proofs.encode_text.put_code.Goals as goal

pub returns-in_err-put : goal.returns-in_err-put
returns-in_err-put g c =
    stop adds (map bit_byte c.args.code.now.bits) _ _ (start adds _ _) (code-text c.args.code.now) c.in_err-put.ensures c.from_residual.ensures.1

pub returns : goal.returns
returns g c =
    let at = next adds (start adds _ _) (code-text c.args.code.now ∙ ap (λ bs. codes " " ++ map bit_byte bs) (sym c.as_slice.ensures)) c.in_ok-put.ensures in
    last adds at c.put_bits.ensures
