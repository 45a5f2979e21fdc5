-- The cubes so far stand behind the others.
use Rattle.std.proofs.Common.{◌≡◌, ◌++◌}
use Rattle.mv_determine.proofs.behind.put_all.Given as goal

abbrev pub invariant-loop-cube : goal.invariant-loop-cube
invariant-loop-cube l = l.list.items ≡ l.fn.list.items ++ l.yielded
