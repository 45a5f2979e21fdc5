use Rattle.std.proofs.Common.{sym}
use Rattle.mv_base.proofs.Gains.{same}
use Rattle.mv_page.proofs.Adding.{adds}
use Rattle.mv_text.specs.Text.{numbers}
use Rattle.mv_blif_write.proofs.RowText.{zeros-some, zeros-none}
use Rattle.mv_blif_write.proofs.rows.put_zeros.Goals as goal

pub returns-then-some_lacks_one : goal.returns-then-some_lacks_one
returns-then-some_lacks_one g c =
    same adds (sym (zeros-some (numbers c.args.fanins.now) c.args.lines.now (sym c.if-some_lacks_one.ensures))) c.put_rows.ensures

pub returns : goal.returns
returns g c =
    same adds (sym (zeros-none (numbers c.args.fanins.now) c.args.lines.now (sym c.if-some_lacks_one.ensures))) c.put_row.ensures
