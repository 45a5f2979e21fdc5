-- What a line gives and isn't wanted is missed in all.
use Rattle.mv_plans.specs.Expanding.{line_expanded}
use Rattle.mv_plans.proofs.Found.{found_none, found_next, found_all, missed_next}
use Rattle.mv_plans.proofs.expand.find_all.Goals as goal

pub loop-line-init : goal.loop-line-init
loop-line-init c = found_none c.args.wanted.now.keys c.args.found.now.keys

pub loop-line-preserved : goal.loop-line-preserved
loop-line-preserved c =
    found_next (line_expanded c.args.d.0 c.args.inner.now.lines) c.args.lines.now c.loop-line.line-index c.line-item.result c.args.wanted.now.keys c.args.found.now.keys c.loop-line.found.keys
    c.find_expanded.new.found.keys c.loop-line-test.true c.line-item.is c.loop-line.invariant (rw c.if-not-branch.false at c.in_ok-find_expanded.ensures)

pub returns-then-not-branch : goal.returns-then-not-branch
returns-then-not-branch c =
    missed_next (line_expanded c.args.d.0 c.args.inner.now.lines) c.args.lines.now c.loop-line.line-index c.line-item.result c.args.wanted.now.keys c.loop-line-test.true c.line-item.is
    (rw c.if-not-branch.true at c.in_ok-find_expanded.ensures)

pub returns : goal.returns
returns c =
    found_all (line_expanded c.args.d.0 c.args.inner.now.lines) c.args.lines.now c.loop-line.line-index c.args.wanted.now.keys c.args.found.now.keys c.loop-line.found.keys c.loop-line-test.false c.loop-line.invariant
