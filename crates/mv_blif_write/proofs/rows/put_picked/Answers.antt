use Rattle.std.proofs.Common.{sym}
use Rattle.mv_base.proofs.Gains.{same}
use Rattle.mv_page.proofs.Adding.{adds}
use Rattle.mv_text.specs.Text.{numbers}
use Rattle.mv_blif_write.proofs.RowText.{picked-none, picked-one}
use Rattle.mv_blif_write.proofs.rows.put_picked.Goals as goal

pub returns-then-not-picks : goal.returns-then-not-picks
returns-then-not-picks g c =
    same adds (sym (picked-none (numbers c.args.fanins.now) c.args.ones c.args.line.now (sym c.if-not-picks.ensures))) (adds.nothing _)

pub put_row-requires-clause-literals : goal.put_row-requires-clause-literals
put_row-requires-clause-literals g c = rw c.lits.ensures.lits c.lits.ensures.formed.ascending

pub returns : goal.returns
returns g c =
    same adds
    (sym (picked-one (numbers c.args.fanins.now) c.args.ones c.args.line.now c.lits.result.now c.digit_of.result (sym c.if-not-picks.ensures) c.lits.ensures.lits c.digit_of.ensures))
    c.put_row.ensures
