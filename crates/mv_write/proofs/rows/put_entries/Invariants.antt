use Rattle.std.proofs.Common.{drop}
use Rattle.mv_base.proofs.Gains.{Going}
use Rattle.mv_page.specs.Page.{AddsPiece, paged}
use Rattle.mv_net.specs.Formed.{AllLiterals}
use Rattle.mv_write.specs.Walk.{walked, entries_text}
use Rattle.mv_write.proofs.rows.put_entries.Given as goal

abbrev pub invariant-loop-n : goal.invariant-loop-n
invariant-loop-n g l = record {
  going : Going AddsPiece (paged (g.K.Sink.state l.fn.out) l.fn.page) (paged (g.K.Sink.state l.out) l.page) (entries_text (walked l.net.nets l.left (drop l.n-index l.fanins))) (entries_text (walked l.net.nets l.lits l.fanins));
  literals : AllLiterals l.net.nets l.left;
}
