use Rattle.std.proofs.Common.{drop}
use Rattle.mv_base.proofs.Gains.{Going}
use Rattle.mv_page.specs.Page.{AddsPiece, paged}
use Rattle.mv_text.specs.Text.{numbers}
use Rattle.mv_blif_write.proofs.RowText.{rows_text}
use Rattle.mv_blif_write.proofs.rows.put_rows.Given as goal

abbrev pub invariant-loop-line : goal.invariant-loop-line
invariant-loop-line g l =
    Going AddsPiece (paged (g.K.Sink.state l.fn.out) l.fn.page) (paged (g.K.Sink.state l.out) l.page) (rows_text (numbers l.fanins) l.ones (drop l.line-index l.lines)) (rows_text (numbers l.fanins) l.ones l.lines)
