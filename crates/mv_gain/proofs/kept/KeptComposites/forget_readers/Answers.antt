-- The row is empty now.
use Rattle.std.proofs.Common.{refl}
use Rattle.mv_gain.proofs.Rows.{writes_row, row_empty, row_empty_part, past_lacks}
use Rattle.mv_gain.proofs.kept.KeptComposites.forget_readers.Goals as goal

pub returns-in-Some-clause-part : goal.returns-in-Some-clause-part
returns-in-Some-clause-part c =
    let i = c.in-Some.ensures.item in
    row_empty_part _ _ _ _ _ (writes_row _ _ c.args.n.0 c.in-Some.row.now c.none.result i.3.0 i.1 refl) c.none.ensures.empty c.none.ensures.summed

pub returns-in-Some-clause-gone : goal.returns-in-Some-clause-gone
returns-in-Some-clause-gone c =
    let i = c.in-Some.ensures.item in
    row_empty c.args.self.now _ _ _ _ (writes_row _ _ c.args.n.0 c.in-Some.row.now c.none.result i.3.0 i.1 refl) c.none.ensures.empty

pub returns-in-None-clause-gone : goal.returns-in-None-clause-gone
returns-in-None-clause-gone c = past_lacks _ _ c.in-None.ensures.item.3
