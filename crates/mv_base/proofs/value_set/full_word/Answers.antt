use Rattle.std.proofs.Common.{◌-◌, ◌*◌, sym, ◌∙◌, ap, arith}
use Rattle.std.proofs.lemmas.Nat.{one_shl}
use Rattle.mv_base.proofs.WordLemmas.{word_of-ones, word_of-ones_above, word_of-ones_below}
use Rattle.mv_base.proofs.value_set.full_word.Goals as goal

pub returns-then-count-from : goal.returns-then-count-from
returns-then-count-from c = sym (word_of-ones_above c.args.count c.args.at c.if-count-from.true)

pub returns-then-count-from-ge128 : goal.returns-then-count-from-ge128
returns-then-count-from-ge128 c = sym (word_of-ones_below c.args.count c.args.at (omega (arith, c.if-count-from-ge128.true)))

pub returns-else-count-from-ge128 : goal.returns-else-count-from-ge128
returns-else-count-from-ge128 c =
    let shift = one_shl (c.args.count - 128 * c.args.at) 128 c.if-count-from-ge128.false in
    ap (λ n. n - 1) shift ∙ sym (word_of-ones c.args.count c.args.at (omega (arith, c.if-count-from.false)) (omega (arith, c.if-count-from-ge128.false)))
