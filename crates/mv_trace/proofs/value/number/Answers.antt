-- The word is the number that it is read as, or none.
use Rattle.std.proofs.Common.{◌≡◌, ◌∙◌, ◌<◌, ◌^◌, Some, None, true, decimal, sym, ap, arith}
use Rattle.std.proofs.lemmas.Bool.{false≢true}
use Rattle.mv_base.specs.Names.{same_word}
use Rattle.mv_base.proofs.NameLemmas.{same_word_is, same_word_refl}
use Rattle.mv_trace.proofs.Numbers.{no_place, place-from_number, number_short, number_read}
use Rattle.mv_trace.proofs.value.number.Goals as goal

pub returns-then-word-gt-MAX_DIGITS : goal.returns-then-word-gt-MAX_DIGITS
returns-then-word-gt-MAX_DIGITS c =
    let few : c.args.count < 2 ^ 16 = omega arith in
    no_place c.args.count c.args.word.now (λ k is. let short = number_short c.args.count k c.args.word.now few is in omega arith)

pub returns-in_err-number : goal.returns-in_err-number
returns-in_err-number c =
    let few : c.args.count < 2 ^ 16 = omega arith in
    c.from_residual.ensures ∙ no_place c.args.count c.args.word.now (λ k is. let read = number_read c.args.count k c.args.word.now None few is c.in_err-number.ensures in cc)

pub returns-then-number-from : goal.returns-then-number-from
returns-then-number-from c =
    let few : c.args.count < 2 ^ 16 = omega arith in
    no_place c.args.count c.args.word.now
    (λ k is.
    let read = number_read c.args.count k c.args.word.now (Some c.in_ok-number.number) few is c.in_ok-number.ensures in
    let same : c.in_ok-number.number ≡ k = cc in
    let low = is.below in
    omega arith)

pub returns-then-not-same_bytes : goal.returns-then-not-same_bytes
returns-then-not-same_bytes c =
    let few : c.args.count < 2 ^ 16 = omega arith in
    no_place c.args.count c.args.word.now
    (λ k is.
    let read = number_read c.args.count k c.args.word.now (Some c.in_ok-number.number) few is c.in_ok-number.ensures in
    let same : c.in_ok-number.number ≡ k = cc in
    let text : c.as_bytes.result.now ≡ c.args.word.now = c.as_bytes.ensures.value ∙ c.format.ensures.text ∙ ap decimal same ∙ sym is.spelled in
    let yes : c.same_bytes.result ≡ true = c.same_bytes.ensures ∙ ap (same_word c.args.word.now) text ∙ same_word_refl c.args.word.now in
    false≢true (sym c.if-not-same_bytes.true ∙ yes))

pub returns : goal.returns
returns c =
    place-from_number c.args.count c.in_ok-number.number c.args.word.now (omega arith)
    (record {
      below = omega arith;
      spelled = same_word_is c.args.word.now c.as_bytes.result.now (sym c.same_bytes.ensures ∙ c.if-not-same_bytes.false) ∙ c.as_bytes.ensures.value ∙ c.format.ensures.text;
    })
