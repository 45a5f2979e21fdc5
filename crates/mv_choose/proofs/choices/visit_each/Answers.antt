-- One net after the other.
use Rattle.std.proofs.Common.{◌≡◌, length, arith}
use Rattle.mv_pass.proofs.Visiting.{visited_all, visited_more, visited_none, visited_stop}
use Rattle.mv_choose.specs.Choices.{Determinizing}
use Rattle.mv_visit.specs.Visits.{Treats}
use Rattle.mv_choose.proofs.choices.visit_each.Goals as goal

pub loop-number-init : goal.loop-number-init
loop-number-init g c = record { came = visited_none c.args.terms.free (Treats Determinizing) c.args.net.now _; right = c.requires }

pub loop-number-preserved : goal.loop-number-preserved
loop-number-preserved g c = record {
  came =
      visited_more c.args.terms.free (Treats Determinizing) c.args.net.now c.loop-number.net _ _ c.loop-number.number c.loop-number.invariant.came c.visit.new.net _ c.in-Ok.ensures.passes;
  right = c.in-Ok.ensures.right;
}

pub returns-in-Err : goal.returns-in-Err
returns-in-Err g c =
    visited_stop c.args.terms.free (Treats Determinizing) c.args.net.now c.loop-number.net _ _ c.loop-number.number c.loop-number.invariant.came
    (omega (arith, c.loop-number-test.true, c.loop-number.auto.number-end, c.next_number-number-end.ensures)) c.visit.new.net _ _ c.in-Err.ensures.passes

pub returns : goal.returns
returns g c =
    let e : c.loop-number.number ≡ length c.args.net.now.nets = omega (arith, c.loop-number-test.false, c.loop-number.auto.number-end, c.next_number-number-end.ensures) in
    visited_all c.args.terms.free (Treats Determinizing) c.args.net.now c.loop-number.net _ _ c.loop-number.number c.loop-number.invariant.came e
