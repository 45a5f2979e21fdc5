-- The reader's way along the lines, and their end.
use Rattle.std.proofs.Common.{rules, sym, ◌∙◌}
use Rattle.mv_blif.proofs.Walks.{begins, refused, next, whole_known, whole_faults}
use Rattle.mv_blif.proofs.reader.check_lines.Goals as goal

pub loop-at-init : goal.loop-at-init
loop-at-init c = rw (c.new.ensures, c.new-2.ensures) (begins c.args.lines.now)

pub returns-in-Err-clause-fault : goal.returns-in-Err-clause-fault
returns-in-Err-clause-fault c =
    refused c.args.lines.now c.loop-at.at c.loop-at.known c.index-lines-at.result c.in-Err.fault c.loop-at.invariant c.loop-at-test.true c.index-lines-at.is
    (rw c.command_at.ensures at c.in-Err.ensures.fault)

pub loop-at-preserved : goal.loop-at-preserved
loop-at-preserved c =
    next c.args.lines.now c.loop-at.at c.loop-at.known c.take_line.new.known c.index-lines-at.result c.loop-at.invariant c.loop-at-test.true c.index-lines-at.is
    (rw c.command_at.ensures at c.in-Ok.ensures.fault)
    (rw c.command_at.ensures at c.in-Ok.ensures.ok)

pub returns-in_err-check_file_end-clause-fault : goal.returns-in_err-check_file_end-clause-fault
returns-in_err-check_file_end-clause-fault c =
    rw (← whole_faults c.args.lines.now c.loop-at.at c.loop-at.known c.loop-at.invariant c.loop-at-test.false) (search rules)

pub returns-clause-fault : goal.returns-clause-fault
returns-clause-fault c =
    sym (whole_faults c.args.lines.now c.loop-at.at c.loop-at.known c.loop-at.invariant c.loop-at-test.false) ∙ c.in_ok-check_file_end.ensures

pub returns-clause-ok : goal.returns-clause-ok
returns-clause-ok c = whole_known c.args.lines.now c.loop-at.at c.loop-at.known c.loop-at.invariant c.loop-at-test.false
