use Rattle.std.proofs.Common.{refl, sym, arith}
use Rattle.mv_pool.specs.Walks.{mark}
use Rattle.mv_diagram.proofs.Meeting.{marked_at}
use Rattle.mv_diagram.proofs.meet.is_marked.Goals as goal

pub bounds-marks-id : goal.bounds-marks-id
bounds-marks-id c = omega (arith, c.requires.below c.in-Some.id (sym c.in-Some.ensures))

pub returns-in-Some : goal.returns-in-Some
returns-in-Some c = marked_at c.args.marks.now c.args.d.0 c.in-Some.id (mark c.args.marks.now c.in-Some.id.0) (sym c.in-Some.ensures) refl
