use Rattle.std.proofs.Common.{drop, map}
use Rattle.mv_base.proofs.Gains.{Going}
use Rattle.mv_page.specs.Page.{AddsPiece, paged}
use Rattle.mv_lex.specs.Text.{spaced}
use Rattle.mv_entry.specs.Entries.{code_word}
use Rattle.mv_entry.proofs.encode_text.put_codes.Given as goal

abbrev pub invariant-loop-code : goal.invariant-loop-code
invariant-loop-code g l =
    Going AddsPiece (paged (g.E.Sink.state l.fn.sink) l.fn.page) (paged (g.E.Sink.state l.sink) l.page) (spaced (map code_word (drop l.code-index l.list))) (spaced (map code_word l.list))
