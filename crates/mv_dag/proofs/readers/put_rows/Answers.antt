-- One row more.
use Rattle.std.proofs.Common.{List, take, subst}
use Rattle.mv_base.specs.declared.number.NetId.{NetId}
use Rattle.mv_dag.specs.Readers.{IsGrown, is_given_by, is_given}
use Rattle.mv_dag.proofs.Grown.{grown-more}
use Rattle.mv_dag.proofs.Given.{given-part, given-at_row}
use Rattle.mv_dag.proofs.readers.put_rows.Goals as goal

pub returns-in_err-put_row-clause-grown : goal.returns-in_err-put_row-clause-grown
returns-in_err-put_row-clause-grown c =
    let rows = c.args.rows.now in
    let k = c.loop-row.row-index in
    let r = c.row-item.result in
    let P : List NetId → Type 0 = λ l. IsGrown c.loop-row.readers c.put_row.new.readers (is_given_by r.net.0 l) in
    grown-more c.args.readers.now c.loop-row.readers c.put_row.new.readers (is_given (take k rows)) (is_given_by r.net.0 r.fanins) (is_given rows) c.loop-row.invariant.0 (subst P c.as_slice.ensures c.put_row.ensures.grown) (given-part rows k) (given-at_row rows k r r c.loop-row-test.true c.row-item.is)
