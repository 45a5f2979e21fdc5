use Rattle.mv_rows.specs.Columns.{IsColumnOrder}
use Rattle.mv_rows.proofs.Orders.{places_fit}
use Rattle.mv_rows.proofs.Cubes.{counts_few, IsRowCube-literals, HasNoPoint-literals, each_case}
use Rattle.mv_rows.proofs.column.Frame.cube.Goals as goal

pub cube-requires-clause-places : goal.cube-requires-clause-places
cube-requires-clause-places c = rw c.as_slice.ensures (places_fit c.args.self.now.columns c.args.self.now.order c.args.sets.now c.requires.frame.ordered c.requires.sets)

pub cube-requires-clause-counts : goal.cube-requires-clause-counts
cube-requires-clause-counts c = rw c.as_slice.ensures (counts_few c.args.self.now.columns c.args.self.now.order c.requires.frame.columns c.requires.frame.ordered)

pub returns : goal.returns
returns c =
    let o : IsColumnOrder c.args.self.now.columns c.as_slice.result.now = rw c.as_slice.ensures c.requires.frame.ordered in
    each_case _ _ _ _
    (HasNoPoint-literals c.args.self.now.columns c.as_slice.result.now c.args.sets.now c.requires.sets o)
    (λ cube found. IsRowCube-literals c.args.self.now.columns c.as_slice.result.now c.args.sets.now cube c.requires.frame.columns c.requires.sets o found)
    c.cube.result c.cube.ensures
