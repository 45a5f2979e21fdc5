-- One net after the other.
use Rattle.std.proofs.Common.{◌≡◌, length, arith}
use Rattle.mv_base.proofs.Meanings.{SameMeaning-refl, SameMeaning-then}
use Rattle.mv_pass.proofs.Visiting.{visited_none, visited_more, visited_stop, visited_all}
use Rattle.mv_extract.specs.Steps.{DividesNet}
use Rattle.mv_extract.proofs.Leaving.{still_ready}
use Rattle.mv_extract.proofs.dividing.divide_each.Goals as goal

pub loop-number-init : goal.loop-number-init
loop-number-init g c = record {
  came = visited_none c.args.terms.free (DividesNet c.args.terms.free c.args.divisor.now c.args.d) c.args.net.now _;
  means = SameMeaning-refl _;
}

pub loop-number-preserved : goal.loop-number-preserved
loop-number-preserved g c = record {
  came = visited_more c.args.terms.free (DividesNet c.args.terms.free c.args.divisor.now c.args.d) _ _ _ _ c.loop-number.number c.loop-number.invariant.came _ _ c.in-Ok.ensures.passes;
  means = SameMeaning-then _ _ _ c.in-Ok.ensures.means c.loop-number.invariant.means;
}

pub visit-requires : goal.visit-requires
visit-requires g c =
    still_ready c.args.terms.free c.args.divisor.now c.args.d c.args.net.now c.requires c.loop-number.number c.loop-number.net c.loop-number.invariant.came.took.entries c.well_formed-2.ensures
    (omega (arith, c.loop-number-test.true, c.loop-number.auto.number-end, c.next_number-number-end.ensures, c.requires.last)) c.loop-number.invariant.came.took.are

pub returns-in-Err-clause-passes : goal.returns-in-Err-clause-passes
returns-in-Err-clause-passes g c =
    visited_stop c.args.terms.free (DividesNet c.args.terms.free c.args.divisor.now c.args.d) _ _ _ _ c.loop-number.number c.loop-number.invariant.came
    (omega (arith, c.loop-number-test.true, c.loop-number.auto.number-end, c.next_number-number-end.ensures)) _ _ _ c.in-Err.ensures.passes

pub returns-in-Err-clause-means : goal.returns-in-Err-clause-means
returns-in-Err-clause-means g c = SameMeaning-then _ _ _ c.in-Err.ensures.means c.loop-number.invariant.means

pub returns-clause-passes : goal.returns-clause-passes
returns-clause-passes g c =
    let e : c.loop-number.number ≡ length c.args.net.now.nets = omega (arith, c.loop-number-test.false, c.loop-number.auto.number-end, c.next_number-number-end.ensures) in
    visited_all c.args.terms.free (DividesNet c.args.terms.free c.args.divisor.now c.args.d) _ _ _ _ c.loop-number.number c.loop-number.invariant.came e
