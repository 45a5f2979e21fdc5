use Rattle.std.proofs.Common.{◌≡◌, ◌++◌, drop}
use Rattle.mv_flex.specs.Spaces.{digits}
use Rattle.mv_flex.proofs.space.put_digits.Given as goal

abbrev pub invariant-loop-count : goal.invariant-loop-count
invariant-loop-count l = l.values.items ++ digits (drop l.count-index l.counts) l.rest ≡ l.fn.values.items ++ digits l.counts l.number
