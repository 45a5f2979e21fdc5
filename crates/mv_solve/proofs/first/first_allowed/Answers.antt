use Rattle.std.proofs.Common.{◌∙◌, sym, ap}
use Rattle.std.specs.Prelude.{slice_index}
use Rattle.mv_cover.specs.Cubes.{matches}
use Rattle.mv_solve.proofs.Firsts.{given_held, given_not, met_all, default_all, bare_all}
use Rattle.mv_solve.proofs.first.first_allowed.Goals as goal
use Rattle.mv_solve.proofs.first.first_allowed.Goals.{then-all_hold, else-all_hold}

pub loop-line-preserved : goal.loop-line-preserved
loop-line-preserved c =
    let at = slice_index c.args.values.now in
    let ls = c.as_slice-line-items.result.now in
    let holds = ap (matches at) (sym c.lits.ensures.lits) ∙ sym c.all_hold.ensures in
    elim c.if-all_hold.branch [
      | then-all_hold w ↦ rw (w.first-is, w.some_match-is) (given_held at ls c.loop-line.line-index c.line-item.result c.args.start c.args.end c.loop-line.first w.first_in-first.result c.loop-line.some_match c.loop-line-test.true c.line-item.is c.loop-line.invariant (holds ∙ w.if-all_hold.true) w.first_in-first.ensures)
      | else-all_hold w ↦ rw (w.first-is, w.some_match-is) (given_not at ls c.loop-line.line-index c.line-item.result c.args.start c.args.end c.loop-line.first c.loop-line.some_match c.loop-line-test.true c.line-item.is c.loop-line.invariant (holds ∙ w.if-all_hold.false))
    ]

pub returns-then-some_match : goal.returns-then-some_match
returns-then-some_match c = met_all c.args.cover.now c.as_slice-line-items.result.now (slice_index c.args.values.now) c.loop-line.line-index c.args.start c.args.end c.loop-line.first c.loop-line.some_match c.as_slice-line-items.ensures c.loop-line-test.false c.if-some_match.true c.loop-line.invariant

pub returns-in-Some : goal.returns-in-Some
returns-in-Some c = default_all c.args.cover.now c.as_slice-line-items.result.now (slice_index c.args.values.now) c.loop-line.line-index c.args.start c.args.end c.loop-line.first c.first_in.result _ c.loop-line.some_match c.as_slice-line-items.ensures c.loop-line-test.false c.if-some_match.false c.in-Some.is c.loop-line.invariant c.first_in.ensures

pub returns-in-None : goal.returns-in-None
returns-in-None c = bare_all c.args.cover.now c.as_slice-line-items.result.now (slice_index c.args.values.now) c.loop-line.line-index c.args.start c.args.end c.loop-line.first c.loop-line.some_match c.as_slice-line-items.ensures c.loop-line-test.false c.in-None.is c.loop-line.invariant
