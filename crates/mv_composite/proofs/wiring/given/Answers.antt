-- The lines that are left are those of all that the lines give.
use Rattle.std.proofs.Common.{subst}
use Rattle.std.proofs.lemmas.List.{take_all}
use Rattle.std.proofs.lemmas.List.Elements.{All-nil, All-more}
use Rattle.mv_cover.specs.declared.line.Line.{Line}
use Rattle.mv_cover.specs.Cubes.{IsCube}
use Rattle.mv_composite.specs.Inside.{AreCubes}
use Rattle.mv_composite.specs.Wired.{line_wired}
use Rattle.mv_composite.proofs.Puts.{left_none, left_next, left_all}
use Rattle.mv_composite.proofs.wiring.given.Goals as goal

pub loop-line-init : goal.loop-line-init
loop-line-init c = record { left = left_none c.new-left.result c.new-left.ensures; formed = All-nil (λ (l : Line). IsCube l.cube) }

pub loop-line-preserved : goal.loop-line-preserved
loop-line-preserved c = record {
  left =
      left_next (line_wired c.args.net.0 c.args.into.0) c.args.lines.now c.loop-line.line-index c.line-item.result c.loop-line.left c.put_wired.new.left c.loop-line-test.true c.line-item.is c.loop-line.invariant.left c.in_ok-put_wired.ensures.puts;
  formed =
      All-more (λ (l : Line). IsCube l.cube) c.args.lines.now c.loop-line.line-index c.line-item.result c.loop-line-test.true c.loop-line.invariant.formed
      (subst (λ (l : Line). IsCube l.cube) c.line-item.is c.in_ok-put_wired.ensures.formed);
}

pub returns-clause-left : goal.returns-clause-left
returns-clause-left c = left_all (line_wired c.args.net.0 c.args.into.0) c.args.lines.now c.loop-line.line-index c.loop-line.left c.loop-line-test.false c.loop-line.invariant.left

pub returns-clause-formed : goal.returns-clause-formed
returns-clause-formed c = subst AreCubes (take_all c.loop-line.line-index c.args.lines.now c.loop-line-test.false) c.loop-line.invariant.formed
