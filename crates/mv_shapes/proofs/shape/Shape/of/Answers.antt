-- Each column's net is among the nets.
use Rattle.std.proofs.Common.{◌≡◌, List, true, sym, subst, All}
use Rattle.mv_base.specs.declared.number.NetId.{NetId}
use Rattle.mv_graph.specs.Nets.{has_id}
use Rattle.mv_rows.specs.declared.column.Column.{Column}
use Rattle.mv_shapes.proofs.Placing.{all_among}
use Rattle.mv_shapes.proofs.shape.Shape.of.Goals as goal

pub placed-requires-clause-among : goal.placed-requires-clause-among
placed-requires-clause-among c =
    let P : List NetId → Type 0 = λ ns. All (λ (d : Column). has_id ns d.net.0 ≡ true) c.args.columns.now in
    subst P (sym c.as_slice.ensures) (all_among c.args.columns.now c.args.mark c.in_ok-nets.nets c.in_ok-nets.ensures)
