use Rattle.std.proofs.Common.{drop, map}
use Rattle.std.specs.List.{flat_map}
use Rattle.mv_base.proofs.Gains.{Going}
use Rattle.mv_page.specs.Page.{AddsPiece, paged}
use Rattle.mv_lex.specs.Text.{line_text}
use Rattle.mv_text.specs.Text.{latch_words}
use Rattle.mv_write.proofs.latches.put_latches.Given as goal

abbrev pub invariant-loop-latch : goal.invariant-loop-latch
invariant-loop-latch g l =
    Going AddsPiece (paged (g.K.Sink.state l.fn.out) l.fn.page) (paged (g.K.Sink.state l.out) l.page) (flat_map line_text (map (latch_words l.net.nets) (drop l.latch-index l.latch-items))) (flat_map line_text (map (latch_words l.net.nets) l.net.latches))
