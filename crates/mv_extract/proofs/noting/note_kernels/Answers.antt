-- One net after the other.
use Rattle.std.proofs.Common.{◌≡◌, length, arith}
use Rattle.mv_pass.proofs.Visiting.{visited_none, visited_more, visited_stop, visited_all}
use Rattle.mv_extract.specs.Extracts.{NotesKernels}
use Rattle.mv_extract.proofs.noting.note_kernels.Goals as goal

pub loop-number-init : goal.loop-number-init
loop-number-init g c = visited_none c.args.terms.free NotesKernels c.args.net.now _

pub loop-number-preserved : goal.loop-number-preserved
loop-number-preserved g c = visited_more c.args.terms.free NotesKernels _ _ _ _ c.loop-number.number c.loop-number.invariant _ _ c.in-Ok.ensures

pub returns-in-Err : goal.returns-in-Err
returns-in-Err g c =
    visited_stop c.args.terms.free NotesKernels _ _ _ _ c.loop-number.number c.loop-number.invariant
    (omega (arith, c.loop-number-test.true, c.loop-number.auto.number-end, c.next_number-number-end.ensures)) _ _ _ c.in-Err.ensures

pub returns : goal.returns
returns g c =
    let e : c.loop-number.number ≡ length c.args.net.now.nets = omega (arith, c.loop-number-test.false, c.loop-number.auto.number-end, c.next_number-number-end.ensures) in
    visited_all c.args.terms.free NotesKernels _ _ _ _ c.loop-number.number c.loop-number.invariant e
