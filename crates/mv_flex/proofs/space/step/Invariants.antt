use Rattle.std.proofs.Common.{◌≡◌, ◌+◌, ◌++◌, take, drop, length}
use Rattle.mv_flex.specs.Spaces.{next}
use Rattle.mv_flex.proofs.space.step.Given as goal

abbrev pub invariant-loop-place : goal.invariant-loop-place
invariant-loop-place l = record {
  long : length l.values.items ≡ length l.fn.values.items;
  rest : take (l.from + l.place) l.values.items ++ next (drop l.place l.counts) (drop (l.from + l.place) l.values.items) ≡ take l.from l.fn.values.items ++ next l.counts (drop l.from l.fn.values.items);
}
