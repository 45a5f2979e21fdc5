use Rattle.std.proofs.Common.{sym, arith}
use Rattle.mv_diagram.proofs.Meeting.{marks_new, marks_same}
use Rattle.mv_diagram.proofs.meet.mark_at.Goals as goal

pub bounds-marks-id : goal.bounds-marks-id
bounds-marks-id c = omega (arith, c.requires.below c.in-Some.id (sym c.in-Some.ensures))

pub returns-in-Some : goal.returns-in-Some
returns-in-Some c = marks_new c.args.marks.now c.args.d.0 c.in-Some.id (sym c.in-Some.ensures)

pub returns-in_default : goal.returns-in_default
returns-in_default c = marks_same c.args.marks.now c.args.d.0
