use Rattle.std.proofs.Common.{ℕ, List, subst, sym}
use Rattle.mv_cover.specs.declared.line.Line.{Line}
use Rattle.mv_diagram.specs.Sets.{InRange}
use Rattle.mv_factors.specs.Families.{before}
use Rattle.mv_factors.proofs.Keeping.{Keeps-then}
use Rattle.mv_relation.specs.Placing.{line_holds}
use Rattle.mv_relation.proofs.Uniting.{apart_line, unite_more}
use Rattle.mv_relation.proofs.lines.unite_lines.Goals as goal

pub unite_line-requires-clause-apart : goal.unite_line-requires-clause-apart
unite_line-requires-clause-apart c =
    apart_line c.args.factors.now.contents.counts c.loop-line.factors.contents.counts c.args.vars.now c.args.own c.args.lines.now
    c.loop-line.line-index c.line-item.result c.loop-line.invariant.keeps.counts c.loop-line-test.true c.line-item.is c.requires.apart

pub loop-line-preserved : goal.loop-line-preserved
loop-line-preserved c = record {
  keeps = Keeps-then _ _ _ (before c.args.place) c.loop-line.invariant.keeps c.unite_line.ensures.keeps;
  long = c.in-Ok.ensures.long;
  set = λ p range.
      unite_more (λ (l : Line). line_holds c.args.vars.now c.args.own c.args.gives p l) c.args.lines.now c.loop-line.line-index c.line-item.result _ _ _ c.loop-line-test.true c.line-item.is
      (c.loop-line.invariant.set p range)
      (c.in-Ok.ensures.set p (subst (λ (cs : List ℕ). InRange cs p) (sym c.loop-line.invariant.keeps.counts) range));
}
