use Rattle.std.proofs.Common.{◌≡◌, ◌-◌, drop}
use Rattle.mv_cover.specs.Cubes.{nets_ascend}
use Rattle.mv_body.proofs.sorted.ascend.Given as goal

abbrev pub invariant-loop-at : goal.invariant-loop-at
invariant-loop-at l = nets_ascend (drop (l.at - 1) l.lits) ≡ nets_ascend l.lits
