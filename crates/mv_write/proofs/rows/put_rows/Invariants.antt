use Rattle.std.proofs.Common.{drop}
use Rattle.std.specs.List.{flat_map}
use Rattle.mv_base.proofs.Gains.{Going}
use Rattle.mv_page.specs.Page.{AddsPiece, paged}
use Rattle.mv_lex.specs.Text.{line_text}
use Rattle.mv_net.specs.Nets.{slot, spelled_in}
use Rattle.mv_text.specs.Text.{line_words, numbers}
use Rattle.mv_write.proofs.rows.put_rows.Given as goal

abbrev pub invariant-loop-line : goal.invariant-loop-line
invariant-loop-line g l =
    Going AddsPiece (paged (g.K.Sink.state l.fn.out) l.fn.page) (paged (g.K.Sink.state l.out) l.page) (flat_map (λ x. line_text (line_words l.net.nets (spelled_in (slot l.net.nets l.n.0)) (numbers l.fanins) x)) (drop l.line-index l.lines)) (flat_map (λ x. line_text (line_words l.net.nets (spelled_in (slot l.net.nets l.n.0)) (numbers l.fanins) x)) l.lines)
