use Rattle.std.proofs.Common.{◌∙◌, sym, ap}
use Rattle.mv_solve.specs.Known.{may_match, must_match}
use Rattle.mv_solve.proofs.Spreading.{passed_not, passed_may, passed_must, refuses_met, refuses_default, refuses_bare}
use Rattle.mv_solve.proofs.forward.first_possible.Goals as goal
use Rattle.mv_solve.proofs.forward.first_possible.Goals.{then-may_match+then-must_match, then-may_match+else-must_match, else-may_match}

pub loop-line-preserved : goal.loop-line-preserved
loop-line-preserved c =
    let known = c.args.known.now in
    let ls = c.as_slice-line-items.result.now in
    let i = c.loop-line.line-index in
    let l = c.line-item.result in
    let first = c.loop-line.first in
    let sure = c.loop-line.some_match in
    let may = ap (may_match known) (sym c.lits.ensures.lits) ∙ sym c.may_match.ensures in
    elim c.if-may_match.branch [
      | then-may_match+then-must_match w ↦ rw (w.first-is, w.some_match-is) (passed_must known ls i l c.args.start c.args.end first w.first_in-first.result sure c.loop-line-test.true c.line-item.is c.loop-line.invariant w.first_in-first.ensures (ap (must_match known) (sym w.lits-then-may_match.ensures.lits) ∙ (sym w.must_match.ensures ∙ w.if-must_match.true)))
      | then-may_match+else-must_match w ↦ rw (w.first-is, w.some_match-is) (passed_may known ls i l c.args.start c.args.end first w.first_in-first.result sure c.loop-line-test.true c.line-item.is c.loop-line.invariant w.first_in-first.ensures)
      | else-may_match w ↦ rw (w.first-is, w.some_match-is) (passed_not known ls i l c.args.start c.args.end first sure c.loop-line-test.true c.line-item.is c.loop-line.invariant (may ∙ w.if-may_match.false))
    ]

pub returns-then-some_match-clause-refuses : goal.returns-then-some_match-clause-refuses
returns-then-some_match-clause-refuses c = refuses_met c.args.known.now c.args.cover.now c.as_slice-line-items.result.now c.loop-line.line-index c.args.start c.args.end c.loop-line.first c.loop-line.some_match c.as_slice-line-items.ensures c.loop-line-test.false c.if-some_match.true c.loop-line.invariant

pub returns-in-Some-clause-refuses : goal.returns-in-Some-clause-refuses
returns-in-Some-clause-refuses c = refuses_default c.args.known.now c.args.cover.now c.as_slice-line-items.result.now c.loop-line.line-index c.args.start c.args.end c.loop-line.first c.first_in.result _ c.loop-line.some_match c.as_slice-line-items.ensures c.loop-line-test.false c.in-Some.is c.loop-line.invariant c.first_in.ensures

pub returns-in-None-clause-refuses : goal.returns-in-None-clause-refuses
returns-in-None-clause-refuses c = refuses_bare c.args.known.now c.args.cover.now c.as_slice-line-items.result.now c.loop-line.line-index c.args.start c.args.end c.loop-line.first c.loop-line.some_match c.as_slice-line-items.ensures c.loop-line-test.false c.in-None.is c.loop-line.invariant
