use Rattle.std.proofs.Common.{drop}
use Rattle.std.specs.List.{flat_map}
use Rattle.mv_base.proofs.Gains.{Going}
use Rattle.mv_page.specs.Page.{AddsPiece, paged}
use Rattle.mv_lex.specs.Text.{line_text}
use Rattle.mv_text.specs.Text.{decl_words}
use Rattle.mv_write.proofs.declarations.put_declarations.Given as goal

abbrev pub invariant-loop-n : goal.invariant-loop-n
invariant-loop-n g l =
    Going AddsPiece (paged (g.K.Sink.state l.fn.out) l.fn.page) (paged (g.K.Sink.state l.out) l.page) (flat_map line_text (flat_map decl_words (drop l.n l.net.nets))) (flat_map line_text (flat_map decl_words l.net.nets))
