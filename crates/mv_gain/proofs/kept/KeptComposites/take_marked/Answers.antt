-- The row has the same pairs.
use Rattle.std.proofs.Common.{refl}
use Rattle.mv_gain.proofs.Rows.{writes_row, row_same}
use Rattle.mv_gain.proofs.kept.KeptComposites.take_marked.Goals as goal

pub returns-in-Some : goal.returns-in-Some
returns-in-Some c =
    let i = c.in-Some.ensures.item in
    row_same _ _ _ _ _ (writes_row _ _ c.args.n.0 c.in-Some.row.now c.take_marked.new.self i.3.0 i.1 refl) c.take_marked.ensures
