-- One net after the other.
use Rattle.std.proofs.Common.{◌≡◌, ◌+◌, length, arith}
use Rattle.mv_pass.specs.Courses.{Perhaps}
use Rattle.mv_pass.proofs.Coming.{came_none, came_more, came_stop, came_as, came_whole}
use Rattle.mv_fill.specs.Fills.{FillsNet, FillsTables, FillsAll}
use Rattle.mv_fill.specs.Filling.{HasFilled}
use Rattle.mv_fill.proofs.Filled.{filled_none, filled_more, filled_stops, filled_all}
use Rattle.mv_fill.proofs.Unfilled.{marks_kept}
use Rattle.mv_fill.proofs.filling.visit_each.Goals as goal

pub loop-number-init : goal.loop-number-init
loop-number-init g c = record {
  came = came_none c.args.terms.free (HasFilled c.args.terms.free 0) c.args.net.now _ (filled_none c.args.terms.free c.args.net.now);
  marks = c.requires;
}

pub loop-number-preserved : goal.loop-number-preserved
loop-number-preserved g c =
    let free = c.args.terms.free in
    let n = c.loop-number.number in
    record {
      came =
          came_more free (HasFilled free n) (FillsNet free n) (Perhaps (FillsNet free n)) c.args.net.now c.loop-number.net c.visit.new.net _ _ _ c.loop-number.invariant.came (HasFilled free (n + 1))
          (λ xs ys p v. filled_more free n c.args.net.now c.loop-number.net c.visit.new.net c.well_formed-in-loop-number.ensures xs ys p v) c.in-Ok.ensures.passes;
      marks = marks_kept c.loop-number.net.nets c.visit.new.net.nets c.args.marks.now c.in-Ok.ensures.keeps c.loop-number.invariant.marks;
    }

pub returns-in-Err : goal.returns-in-Err
returns-in-Err g c =
    let free = c.args.terms.free in
    let n = c.loop-number.number in
    came_stop free (HasFilled free n) (FillsNet free n) (Perhaps (FillsNet free n)) c.args.net.now c.loop-number.net c.visit.new.net _ _ _ c.loop-number.invariant.came (FillsAll free) (FillsTables free) _
    (λ xs ys p v. filled_stops free n c.args.net.now c.loop-number.net c.visit.new.net c.well_formed-in-loop-number.ensures xs ys p (omega (arith, c.loop-number-test.true, c.loop-number.auto.number-end, c.next_number-number-end.ensures)) v) c.in-Err.ensures.passes

pub returns : goal.returns
returns g c =
    let free = c.args.terms.free in
    let e : c.loop-number.number ≡ length c.args.net.now.nets = omega (arith, c.loop-number-test.false, c.loop-number.auto.number-end, c.next_number-number-end.ensures) in
    came_whole free (FillsAll free) (FillsTables free) _ _ _ _
    (came_as free (HasFilled free c.loop-number.number) (FillsAll free) _ _ _ _ (λ es p. filled_all free c.loop-number.number c.args.net.now c.loop-number.net es e p) c.loop-number.invariant.came)
