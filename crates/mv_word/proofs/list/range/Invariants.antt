use Rattle.std.proofs.Common.{◌≡◌, take, drop, []}
use Rattle.mv_word.specs.Entries.{range_from}
use Rattle.mv_word.proofs.list.range.Given as goal

abbrev pub invariant-loop-at : goal.invariant-loop-at
invariant-loop-at l = range_from l.values [] l.word ≡ range_from l.values (take l.at l.word) (drop l.at l.word)
