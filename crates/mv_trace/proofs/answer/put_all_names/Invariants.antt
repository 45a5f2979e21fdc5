use Rattle.std.proofs.Common.{drop}
use Rattle.std.specs.List.{enumerate_from}
use Rattle.mv_base.proofs.Gains.{Going}
use Rattle.mv_page.specs.Page.{AddsPiece, paged}
use Rattle.mv_lex.specs.Text.{spaced}
use Rattle.mv_trace.specs.Answer.{words_from, net_name}
use Rattle.mv_trace.proofs.answer.put_all_names.Given as goal

abbrev pub invariant-loop-n : goal.invariant-loop-n
invariant-loop-n g l =
    Going AddsPiece (paged (g.K.Sink.state l.fn.out) l.fn.page) (paged (g.K.Sink.state l.out) l.page) (spaced (words_from net_name (enumerate_from l.n (drop l.n l.net.nets)))) (spaced (words_from net_name (enumerate_from 0 l.net.nets)))
