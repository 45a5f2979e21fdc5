-- One fanin more of the row.
use Rattle.std.proofs.Common.{get_or, take, refl}
use Rattle.mv_base.specs.declared.number.NetId.{NetId}
use Rattle.mv_dag.specs.Readers.{is_edge, is_given_by}
use Rattle.mv_dag.proofs.Grown.{grown-more}
use Rattle.mv_dag.proofs.Given.{given_by-part, given_by-edge}
use Rattle.mv_dag.proofs.readers.put_row.Goals as goal

pub returns-in_err-put_reader-clause-grown : goal.returns-in_err-put_reader-clause-grown
returns-in_err-put_reader-clause-grown c =
    let none : NetId = record { 0 = 0 } in
    let ns = c.args.fanins.now in
    let k = c.loop-fanin.fanin-index in
    let n = c.args.net.0 in
    grown-more c.args.readers.now c.loop-fanin.readers c.put_reader.new.readers (is_given_by n (take k ns)) (is_edge n (get_or ns k none).0) (is_given_by n ns) c.loop-fanin.invariant.0 c.put_reader.ensures.grown (given_by-part n ns k) (given_by-edge n ns k (get_or ns k none) none c.loop-fanin-test.true refl)
