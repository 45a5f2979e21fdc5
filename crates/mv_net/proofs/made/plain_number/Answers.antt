-- A number in decimal begins above `0`, or is `0`, is text, and is read as itself.
use Rattle.std.proofs.Common.{◌∙◌, sym, ap, arith}
use Rattle.std.proofs.lemmas.Bool.{false≢true}
use Rattle.mv_net.specs.Fresh.{is_plain}
use Rattle.mv_net.proofs.Decimals.{decimal-plain, decimal-utf8, read_is, read_small, read_none}
use Rattle.mv_net.proofs.made.plain_number.Goals as goal

pub returns-then-not-is_plain-clause-none : goal.returns-then-not-is_plain-clause-none
returns-then-not-is_plain-clause-none c = λ _ number small is. false≢true (sym c.if-not-is_plain.true ∙ (c.is_plain.ensures ∙ (ap is_plain is ∙ decimal-plain number (omega arith))))

pub returns-in-Ok-clause-some : goal.returns-in-Ok-clause-some
returns-in-Ok-clause-some c = read_is c.args.digits.now c.in-Ok.text.now c.parse.result c.ok.result (sym c.is_plain.ensures ∙ c.if-not-is_plain.false) c.in-Ok.ensures.cases.0 c.parse.ensures.value.0 c.ok.ensures.value

pub returns-in-Ok-clause-small : goal.returns-in-Ok-clause-small
returns-in-Ok-clause-small c = read_small c.args.digits.now c.in-Ok.text.now c.parse.result c.ok.result (sym c.is_plain.ensures ∙ c.if-not-is_plain.false) c.in-Ok.ensures.cases.0 c.parse.ensures.value.0 c.ok.ensures.value

pub returns-in-Ok-clause-none : goal.returns-in-Ok-clause-none
returns-in-Ok-clause-none c = λ none number small is. read_none c.args.digits.now c.in-Ok.text.now c.parse.result c.ok.result number c.in-Ok.ensures.cases.0 c.parse.ensures.value.0 c.ok.ensures.value none small is

pub returns-in-Err-clause-none : goal.returns-in-Err-clause-none
returns-in-Err-clause-none c = λ _ number small is. c.in-Err.ensures.cases.0 (decimal-utf8 c.args.digits.now number small is)
