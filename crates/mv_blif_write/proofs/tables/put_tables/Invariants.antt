use Rattle.std.proofs.Common.{drop}
use Rattle.std.specs.List.{flat_map}
use Rattle.mv_base.proofs.Gains.{Going}
use Rattle.mv_page.specs.Page.{AddsPiece, paged}
use Rattle.mv_lex.specs.Text.{line_text}
use Rattle.mv_blif_text.specs.BlifText.{net_words}
use Rattle.mv_blif_write.proofs.tables.put_tables.Given as goal

abbrev pub invariant-loop-n : goal.invariant-loop-n
invariant-loop-n g l =
    Going AddsPiece (paged (g.K.Sink.state l.fn.out) l.fn.page) (paged (g.K.Sink.state l.out) l.page) (flat_map line_text (flat_map (net_words l.net.nets) (drop l.n l.net.nets))) (flat_map line_text (flat_map (net_words l.net.nets) l.net.nets))
