use Rattle.std.proofs.Common.{◌^◌}
use Rattle.std.proofs.lemmas.Nat.{pow_below}
use Rattle.mv_base.specs.Set.{one}
use Rattle.mv_base.proofs.WordLemmas.{number_of_words}
use Rattle.mv_base.proofs.value_set.ValueSet.one.Goals as goal

pub returns : goal.returns
unfolding one
returns c =
    rw (c.one_word.ensures, c.one_word-2.ensures, c.one_word-3.ensures, c.one_word-4.ensures, c.one_word-5.ensures, c.one_word-6.ensures, c.one_word-7.ensures, c.one_word-8.ensures) (number_of_words 8 (2 ^ c.args.value.0) (pow_below c.args.value.0 1024 c.requires))
