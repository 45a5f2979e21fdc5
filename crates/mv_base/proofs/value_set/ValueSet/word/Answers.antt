use Rattle.std.proofs.Common.{◌≤◌, sym, arith}
use Rattle.mv_base.specs.SetInside.{words}
use Rattle.mv_base.proofs.WordLemmas.{word_of-past}
use Rattle.mv_base.proofs.value_set.ValueSet.word.Goals as goal

pub returns-in_default : goal.returns-in_default
returns-in_default c =
    let far : 8 ≤ c.args.at = omega arith in
    rw (← c.self.view_is) (sym (word_of-past (words c.self.inside) c.args.at c.self.invariant far))
