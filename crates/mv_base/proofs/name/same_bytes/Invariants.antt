use Rattle.std.proofs.Common.{◌≡◌, drop}
use Rattle.mv_base.specs.Names.{same_word}
use Rattle.mv_base.proofs.name.same_bytes.Given as goal

abbrev pub invariant-loop-at : goal.invariant-loop-at
invariant-loop-at l = same_word (drop l.at l.a) (drop l.at l.b) ≡ same_word l.a l.b
