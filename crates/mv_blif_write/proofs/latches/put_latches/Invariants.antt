use Rattle.std.specs.List.{flat_map}
use Rattle.mv_base.proofs.Gains.{Going}
use Rattle.mv_page.specs.Page.{AddsPiece, paged}
use Rattle.mv_lex.specs.Text.{line_text}
use Rattle.mv_blif_text.specs.BlifText.{latches_words}
use Rattle.mv_blif_write.proofs.LatchText.{latches_text}
use Rattle.mv_blif_write.proofs.latches.put_latches.Given as goal

abbrev pub invariant-loop-at : goal.invariant-loop-at
invariant-loop-at g l =
    Going AddsPiece (paged (g.K.Sink.state l.fn.out) l.fn.page) (paged (g.K.Sink.state l.out) l.page) (latches_text l.net.nets l.latches l.said l.at) (flat_map line_text (latches_words l.net.nets l.net.latches l.said))
