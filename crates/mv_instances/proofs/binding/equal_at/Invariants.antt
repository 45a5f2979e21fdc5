use Rattle.std.proofs.Common.{◌≡◌, ◌+◌, drop}
use Rattle.std.specs.List.{position_or_len}
use Rattle.mv_instances.specs.Binding.{is_equal}
use Rattle.mv_instances.proofs.binding.equal_at.Given as goal

abbrev pub invariant-loop-at : goal.invariant-loop-at
invariant-loop-at l = position_or_len is_equal l.word ≡ l.at + position_or_len is_equal (drop l.at l.word)
