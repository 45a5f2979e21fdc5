use Rattle.std.proofs.Common.{drop}
use Rattle.mv_lex.specs.Text.{spaced}
use Rattle.mv_text.specs.Text.{names_of}
use Rattle.mv_base.proofs.Gains.{Going}
use Rattle.mv_page.specs.Page.{AddsPiece, paged}
use Rattle.mv_write.proofs.pieces.put_names.Given as goal

abbrev pub invariant-loop-n : goal.invariant-loop-n
invariant-loop-n g l =
    Going AddsPiece (paged (g.K.Sink.state l.fn.out) l.fn.page) (paged (g.K.Sink.state l.out) l.page) (spaced (names_of l.net.nets (drop l.n-index l.nets))) (spaced (names_of l.net.nets l.nets))
