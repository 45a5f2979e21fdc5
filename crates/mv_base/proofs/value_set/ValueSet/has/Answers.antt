use Rattle.std.proofs.Common.{sym}
use Rattle.std.proofs.lemmas.Nat.Bits.{shr_and_one}
use Rattle.mv_base.proofs.WordLemmas.{has_in_word}
use Rattle.mv_base.proofs.value_set.ValueSet.has.Goals as goal

pub returns : goal.returns
returns c = rw (shr_and_one c.word.result, c.word.ensures) (sym (has_in_word c.args.self c.args.value.0))
