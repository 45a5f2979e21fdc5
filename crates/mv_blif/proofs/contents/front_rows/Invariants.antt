use Rattle.std.proofs.Common.{◌≡◌, ◌++◌, take, drop}
use Rattle.mv_blif.specs.Meaning.{front_rows}
use Rattle.mv_blif.proofs.contents.front_rows.Given as goal

abbrev pub invariant-loop-count : goal.invariant-loop-count
invariant-loop-count l = front_rows l.lines ≡ take l.count l.lines ++ front_rows (drop l.count l.lines)
