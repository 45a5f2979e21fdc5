-- From the last code on, each code's number gets the code's value.
use Rattle.std.proofs.Common.{◌≡◌, ◌∙◌, ◌-◌, sym, length, replicate, ap, arith, refl}
use Rattle.mv_entry.specs.declared.rule.Code.{Code}
use Rattle.mv_codes.specs.Codes.{bits_number}
use Rattle.mv_codes.proofs.Values.{shifted_one, number_fits, counted_last, counted_more, counted_all}
use Rattle.mv_codes.proofs.coding.code_values.Goals as goal

pub back-init : goal.back-init
back-init c =
    counted_last c.args.codes.now c.args.bits (length c.args.codes.now - 1) c.in_ok-values.values.items c.requires.some refl
    (c.in_ok-values.ensures.items_if_clones_equal (λ y h. h) ∙ ap (λ n. replicate n (length c.args.codes.now - 1)) (shifted_one c.args.bits c.requires.few))

pub back-preserved : goal.back-preserved
back-preserved c =
    let code = c.index-codes-place.result in
    let own : c.as_slice.result.now ≡ code.bits = c.as_slice.ensures ∙ ap (λ (x : Code). x.bits) (sym c.index-codes-place.is) in
    counted_more c.args.codes.now c.args.bits c.back.place (c.back.place - 1) c.bits_number-number.result c.back.values.items _ code (omega arith) c.index-codes-place.is
    (c.bits_number-number.ensures.value ∙ ap bits_number own)
    (number_fits c.args.codes.now c.args.bits (c.back.place - 1) c.bits_number-number.result code c.as_slice.result.now c.requires.long (omega (arith, c.back.invariant.low)) c.index-codes-place.is own c.bits_number-number.ensures.low)
    refl c.back.invariant

pub returns : goal.returns
returns c = c.of.ensures ∙ counted_all c.args.codes.now c.args.bits c.back.place c.back.values.items (omega arith) c.back.invariant
