use Rattle.std.proofs.Common.{◌≤◌, ◌^◌, ◌-◌, arith, lit<}
use Rattle.std.proofs.lemmas.Nat.{pow_pos}
use Rattle.std.proofs.Math.Nat.{pow-le-pow_right}
use Rattle.mv_base.specs.Set.{full}
use Rattle.mv_base.proofs.WordLemmas.{number_of_words}
use Rattle.mv_base.proofs.value_set.ValueSet.full.Goals as goal

pub returns : goal.returns
unfolding full
returns c =
    let small : 2 ^ c.args.count ≤ 2 ^ 1024 = pow-le-pow_right (lit< tt) c.requires in
    let some = pow_pos c.args.count in
    rw (c.full_word.ensures, c.full_word-2.ensures, c.full_word-3.ensures, c.full_word-4.ensures, c.full_word-5.ensures, c.full_word-6.ensures, c.full_word-7.ensures, c.full_word-8.ensures) (number_of_words 8 (2 ^ c.args.count - 1) (omega (arith, small, some)))
