-- Behind each line stands what is left of the lines so far.
use Rattle.std.proofs.Common.{List, [], take, sym, subst}
use Rattle.std.proofs.lemmas.List.{take_all}
use Rattle.mv_cover.specs.declared.line.Line.{Line}
use Rattle.mv_cover.specs.Absorb.{IsLeftOf}
use Rattle.mv_cover.proofs.Putting.{left-none, left-next}
use Rattle.mv_cover.proofs.absorb.lines_left.Goals as goal

pub loop-line-init : goal.loop-line-init
loop-line-init c = subst (λ (left : List Line). IsLeftOf [] left) (sym c.new-left.ensures) left-none

pub loop-line-preserved : goal.loop-line-preserved
loop-line-preserved c =
    left-next c.args.lines.now c.put.new.self c.loop-line.line-index c.line-item.result c.in_ok-copy.field-0 c.loop-line-test.true c.line-item.is c.in_ok-copy.ensures.copy
    (c.in_ok-put.ensures.ok (take c.loop-line.line-index c.args.lines.now) c.loop-line.invariant)

pub returns : goal.returns
returns c =
    subst (λ (ls : List Line). IsLeftOf ls c.loop-line.left) (take_all c.loop-line.line-index c.args.lines.now c.loop-line-test.false) c.loop-line.invariant
