use Rattle.std.proofs.Common.{sym}
use Rattle.mv_base.proofs.Gains.{same}
use Rattle.mv_page.proofs.Adding.{adds}
use Rattle.mv_text.specs.Text.{numbers}
use Rattle.mv_blif_write.proofs.RowText.{choice-zeros, choice-ones}
use Rattle.mv_blif_write.proofs.rows.put_choice.Goals as goal

pub returns-then-gives_one : goal.returns-then-gives_one
returns-then-gives_one g c =
    same adds (sym (choice-zeros (numbers c.args.fanins.now) c.args.cover.now c.as_slice-lines.result.now (sym c.if-gives_one.ensures) c.as_slice-lines.ensures)) c.put_zeros.ensures

pub returns : goal.returns
returns g c =
    same adds (sym (choice-ones (numbers c.args.fanins.now) c.args.cover.now c.as_slice-lines.result.now (sym c.if-gives_one.ensures) c.as_slice-lines.ensures)) c.put_rows.ensures
