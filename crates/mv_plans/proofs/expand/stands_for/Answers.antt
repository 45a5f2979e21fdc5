-- All lines were found, so the lines are the same where each of the wanted ones was.
use Rattle.mv_plans.specs.Expanding.{expanded}
use Rattle.mv_plans.proofs.Found.{found_same}
use Rattle.mv_plans.proofs.expand.stands_for.Goals as goal

pub returns : goal.returns
returns c =
    found_same c.are_all_in.result c.in_ok-wanted.wanted.keys c.args.old.now.lines (expanded c.args.d.0 c.args.inner.now.lines c.args.body.now.lines) c.find_all.new.found.keys
    (rw c.as_slice.ensures at c.in_ok-wanted.ensures)
    (rw (c.if-not-branch.false, c.as_slice-2.ensures, c.new-found.ensures.empty) at c.in_ok-find_all.ensures)
    (rw c.as_slice-3.ensures at c.are_all_in.ensures)
