-- What was told of the nets and of the latches is what keeps the order.
use Rattle.mv_plans.proofs.Ordered.{without_more, without_reset, by_state}
use Rattle.mv_plans.proofs.order.keeps_order.Goals as goal

pub returns-then-reads_no_more : goal.returns-then-reads_no_more
returns-then-reads_no_more c =
    without_more c.args.net.now c.args.n.0 c.args.d.0 c.args.body.now c.in_ok-fanins.fanins c.in_ok-fanins.ensures c.well_formed-2.ensures
    (rw c.if-branch.false at c.in_ok-is_from.ensures)
    (rw (c.if-branch-2.false, c.as_slice.ensures) at c.in_ok-is_over.ensures)
    (rw c.as_slice-2.ensures at (c.reads_no_more.ensures c.if-reads_no_more.true))

pub returns-then-not-branch : goal.returns-then-not-branch
returns-then-not-branch c =
    without_reset c.args.net.now c.args.n.0 c.args.d.0 c.args.body.now c.in_ok-fanins.fanins c.in_ok-fanins.ensures c.well_formed-2.ensures
    (rw c.if-branch.false at c.in_ok-is_from.ensures)
    (rw (c.if-branch-2.false, c.as_slice.ensures) at c.in_ok-is_over.ensures)
    (rw (c.if-not-branch.true, c.latches.ensures) at c.in_ok-is_under_reset.ensures)

pub returns : goal.returns
returns c =
    by_state c.args.net.now c.args.n.0 c.args.d.0 c.args.body.now c.in_ok-fanins.fanins c.in_ok-fanins.ensures c.in_ok-reads_state.field-0 c.well_formed-2.ensures
    (rw c.if-branch.false at c.in_ok-is_from.ensures)
    (rw (c.if-branch-2.false, c.as_slice.ensures) at c.in_ok-is_over.ensures)
    (rw (c.if-not-branch.false, c.latches.ensures) at c.in_ok-is_under_reset.ensures)
    (rw (c.latches-2.ensures, c.as_slice-3.ensures) at c.in_ok-reads_state.ensures)
