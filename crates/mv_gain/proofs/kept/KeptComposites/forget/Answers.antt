-- One place of the row is empty now.
use Rattle.std.proofs.Common.{refl}
use Rattle.mv_gain.proofs.Rows.{writes_row, summed_at, row_part, row_gone, past_rows}
use Rattle.mv_gain.proofs.kept.KeptComposites.forget.Goals as goal

pub forget-requires : goal.forget-requires
forget-requires c =
    let i = c.in-Some.ensures.item in
    record { summed = summed_at c.args.self.now _ c.args.n.0 c.in-Some.row.now refl i.3.0 i.1 c.requires.summed }

pub returns-in_ok-forget-in-Some-clause-part : goal.returns-in_ok-forget-in-Some-clause-part
returns-in_ok-forget-in-Some-clause-part c =
    let i = c.in-Some.ensures.item in
    row_part _ _ _ _ _ (writes_row _ _ c.args.n.0 c.in-Some.row.now c.forget.new.self i.3.0 i.1 refl) _ c.in_ok-forget-in-Some.ensures.updates (λ all. c.in_ok-forget-in-Some.ensures.summed)

pub returns-in_ok-forget-in-Some-clause-gone : goal.returns-in_ok-forget-in-Some-clause-gone
returns-in_ok-forget-in-Some-clause-gone c =
    let i = c.in-Some.ensures.item in
    row_gone c.args.self.now _ _ _ _ (writes_row _ _ c.args.n.0 c.in-Some.row.now c.forget.new.self i.3.0 i.1 refl) _ c.in_ok-forget-in-Some.ensures.updates

pub returns-in-None-clause-gone : goal.returns-in-None-clause-gone
returns-in-None-clause-gone c = past_rows _ _ _ c.in-None.ensures.item.3
