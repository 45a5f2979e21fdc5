use Rattle.std.proofs.Common.{take}
use Rattle.std.specs.List.{flat_map}
use Rattle.mv_cover.specs.declared.line.Line.{Line}
use Rattle.mv_composite.specs.Composite.{set_meets}
use Rattle.mv_composite.proofs.Puts.{meets_given}
use Rattle.mv_composite.proofs.put.put_giving.Given as goal

abbrev pub invariant-loop-line : goal.invariant-loop-line
invariant-loop-line g l = g.T.Taker.takes l.fn.taker l.taker (flat_map (λ (m : Line). meets_given l.rest (set_meets l.asked m.out) l.out m.cube) (take l.line-index l.lines))
