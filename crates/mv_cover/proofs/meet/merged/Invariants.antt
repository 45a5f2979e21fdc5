use Rattle.std.proofs.Common.{◌≡◌, ◌≤◌, ◌+◌, ◌-◌, ◌++◌, length, drop}
use Rattle.mv_cover.specs.Meets.{merged}
use Rattle.mv_cover.proofs.meet.merged.Given as goal

abbrev pub invariant-loop-i : goal.invariant-loop-i
invariant-loop-i l =
    (l.i ≤ length l.a) × (l.j ≤ length l.b) × (l.met.items ++ merged (drop l.i l.a) (drop l.j l.b) ≡ merged l.a l.b)

abbrev pub decreases-loop-i : goal.decreases-loop-i
decreases-loop-i l = (length l.a - l.i) + (length l.b - l.j)
