use Rattle.std.proofs.Common.{drop}
use Rattle.mv_base.proofs.Gains.{Going}
use Rattle.mv_page.specs.Page.{AddsPiece, paged}
use Rattle.mv_lex.specs.Text.{spaced}
use Rattle.mv_verify.proofs.Lines.{numbers}
use Rattle.mv_verify.proofs.text.put_values.Given as goal

abbrev pub invariant-loop-value : goal.invariant-loop-value
invariant-loop-value g l =
    Going AddsPiece (paged (g.K.Sink.state l.fn.out) l.fn.page) (paged (g.K.Sink.state l.out) l.page) (spaced (numbers (drop l.value-index l.values))) (spaced (numbers l.values))
