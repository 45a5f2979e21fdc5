-- The lines of the cubes so far stand behind the others.
use Rattle.std.proofs.Common.{◌≡◌, ◌++◌}
use Rattle.mv_cover.specs.Complement.{lines_for}
use Rattle.mv_determine.proofs.behind.put_lines.Given as goal

abbrev pub invariant-loop-cube : goal.invariant-loop-cube
invariant-loop-cube l = l.lines ≡ l.fn.lines ++ lines_for l.out l.yielded
