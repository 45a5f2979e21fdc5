use Rattle.std.proofs.Common.{drop}
use Rattle.mv_base.proofs.Gains.{Going}
use Rattle.mv_page.specs.Page.{AddsPiece, paged}
use Rattle.mv_lex.specs.Text.{spaced}
use Rattle.mv_entry.proofs.encode_text.put_names.Given as goal

abbrev pub invariant-loop-name : goal.invariant-loop-name
invariant-loop-name g l =
    Going AddsPiece (paged (g.E.Sink.state l.fn.sink) l.fn.page) (paged (g.E.Sink.state l.sink) l.page) (spaced (drop l.name-index l.names)) (spaced l.names)
