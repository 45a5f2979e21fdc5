use Rattle.std.proofs.Common.{◌<◌, ◌%◌, sym, ◌∙◌, lit<, mod-lt}
use Rattle.std.proofs.lemmas.Nat.{one_shl}
use Rattle.mv_base.proofs.WordLemmas.{word_of-pow, word_of-pow_other}
use Rattle.mv_base.proofs.value_set.one_word.Goals as goal

pub returns-then-value-at : goal.returns-then-value-at
returns-then-value-at c =
    let within : c.args.value % 128 < 128 = mod-lt c.args.value (lit< tt) in
    one_shl (c.args.value % 128) 128 within ∙ sym (word_of-pow c.args.value c.args.at c.if-value-at.true)

pub returns-else-value-at : goal.returns-else-value-at
returns-else-value-at c = sym (word_of-pow_other c.args.value c.args.at c.if-value-at.false)
