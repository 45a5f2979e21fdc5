use Rattle.std.proofs.Common.{◌∙◌, ◌+◌, ◌++◌, drop, map, sym, ap}
use Rattle.mv_base.proofs.Gains.{next, stop, finish}
use Rattle.mv_page.proofs.Adding.{adds}
use Rattle.mv_entry.specs.Entries.{bit_byte}
use Rattle.mv_entry.proofs.Texts.{bits-more, bits-none}
use Rattle.mv_entry.proofs.encode_text.put_bits.Goals as goal

pub returns-in_err-put : goal.returns-in_err-put
returns-in_err-put g c =
    let list = c.args.bits.now in
    let i = c.loop-bit.bit-index in
    let rest = map bit_byte (drop (i + 1) list) in
    stop adds rest _ _ c.loop-bit.invariant (bits-more list i c.loop-bit-test.true ∙ ap (λ t. t ++ rest) (sym c.bit_text.ensures)) c.in_err-put.ensures c.from_residual.ensures.1

pub loop-bit-preserved : goal.loop-bit-preserved
loop-bit-preserved g c =
    let list = c.args.bits.now in
    let i = c.loop-bit.bit-index in
    let rest = map bit_byte (drop (i + 1) list) in
    next adds c.loop-bit.invariant (bits-more list i c.loop-bit-test.true ∙ ap (λ t. t ++ rest) (sym c.bit_text.ensures)) c.in_ok-put.ensures

pub returns : goal.returns
returns g c = finish adds c.loop-bit.invariant (bits-none c.args.bits.now c.loop-bit.bit-index c.loop-bit-test.false)
