use Rattle.std.proofs.Common.{◌∙◌, ◌+◌, sym}
use Rattle.mv_solve.proofs.Spreading.{IsNoneSoFar, IsOnlySoFar, none_more, one_more, first_one, none_there, match_more}
use Rattle.mv_solve.proofs.backward.only_line.Goals as goal
use Rattle.mv_solve.proofs.backward.only_line.Goals.{then-may_give+else-is_some, else-may_give}

pub loop-line-preserved : goal.loop-line-preserved
loop-line-preserved c =
    let known = c.args.known.now in
    let ls = c.args.lines.now in
    let i = c.loop-line.line-index in
    let v = c.args.value.0 in
    let l = c.line-item.result in
    elim c.if-may_give.branch [
      | then-may_give+else-is_some w ↦ rw (w.only-is) (first_one known ls i v l c.loop-line-test.true c.line-item.is (none_there c.loop-line.only (IsNoneSoFar known ls i v) (λ o. IsOnlySoFar known ls i v o.now) (sym w.is_some.ensures ∙ w.if-is_some.false) c.loop-line.invariant))
      | else-may_give w ↦ rw (w.only-is) (match_more c.loop-line.only (IsNoneSoFar known ls i v) (IsNoneSoFar known ls (i + 1) v) (λ o. IsOnlySoFar known ls i v o.now) (λ o. IsOnlySoFar known ls (i + 1) v o.now) (none_more known ls i v l c.loop-line-test.true c.line-item.is (sym c.may_give.ensures ∙ w.if-may_give.false)) (λ o. one_more known ls i v l o.now c.loop-line-test.true c.line-item.is (sym c.may_give.ensures ∙ w.if-may_give.false)) c.loop-line.invariant)
    ]
