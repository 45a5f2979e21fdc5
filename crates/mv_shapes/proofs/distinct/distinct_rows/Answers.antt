use Rattle.std.proofs.Common.{[], ◌∷◌, ◌++◌, sym, ◌∙◌, ap}
use Rattle.std.proofs.lemmas.Bool.{not-false, not-true}
use Rattle.std.proofs.lemmas.List.{take_all}
use Rattle.indexmap.specs.IndexSet.{insert_all}
use Rattle.mv_shapes.specs.Distinct.{same_rows}
use Rattle.mv_shapes.proofs.RowKeys.{row_old, row_new, all_rows}
use Rattle.mv_shapes.proofs.distinct.distinct_rows.Goals as goal

pub returns : goal.returns
returns c =
    all_rows c.args.rows.now c.loop-row.list (c.loop-row.invariant.are ∙ ap (insert_all same_rows []) (take_all c.loop-row.row-index c.args.rows.now c.loop-row-test.false))

pub loop-row-preserved-then-not-branch : goal.loop-row-preserved-then-not-branch
loop-row-preserved-then-not-branch c =
    row_old _ _ _ c.row-item.result c.in_ok-key_of.field-0 c.loop-row.keys.keys _ c.loop-row-test.true c.row-item.is c.loop-row.invariant c.in_ok-key_of.ensures c.in_ok-insert.ensures.keys
    (not-false _ (sym c.in_ok-insert.ensures.added ∙ c.if-not-branch.true))

pub loop-row-preserved : goal.loop-row-preserved
loop-row-preserved c =
    row_new _ c.loop-row.list _ _ c.row-item.result c.in_ok-key_of.field-0 c.loop-row.keys.keys _ c.loop-row-test.true c.row-item.is c.loop-row.invariant c.in_ok-key_of.ensures
    c.in_ok-insert.ensures.keys
    (not-true _ (sym c.in_ok-insert.ensures.added ∙ c.if-not-branch.false))
    (c.in_ok-push.ensures.ok ∙ ap (λ r. c.loop-row.list ++ r ∷ []) c.in_ok-copy_row.ensures)
