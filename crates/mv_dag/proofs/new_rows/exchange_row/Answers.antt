use Rattle.mv_dag.proofs.Exchanged.{row_put}
use Rattle.mv_dag.proofs.new_rows.exchange_row.Goals as goal

pub returns-clause-rows : goal.returns-clause-rows
returns-clause-rows c =
    row_put c.args.rows.now c.as_slice.result.now c.replace-new.new.self c.replace.new.self c.args.fanins.now c.args.place c.index-as_slice-place.result _ c.replace-old.result c.requires.inside c.as_slice.ensures c.requires.net c.replace-old.ensures.before c.replace-new.ensures.items c.replace.ensures.items
