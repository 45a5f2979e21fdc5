use Rattle.std.proofs.Common.{take}
use Rattle.std.specs.List.{flat_map}
use Rattle.mv_cover.specs.declared.line.Line.{Line}
use Rattle.mv_cover.specs.Complement.{lines_for}
use Rattle.mv_cover.specs.Meets.{met}
use Rattle.mv_plans.specs.Expanding.{HasFound}
use Rattle.mv_plans.proofs.expand.find_parts.Given as goal

abbrev pub invariant-loop-part : goal.invariant-loop-part
invariant-loop-part l = HasFound l.wanted.keys l.fn.found.keys (flat_map (λ (k : Line). lines_for l.out (met l.rest k.cube)) (take l.part-index l.parts)) l.found.keys
