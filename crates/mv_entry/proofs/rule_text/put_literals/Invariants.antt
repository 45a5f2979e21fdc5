use Rattle.std.proofs.Common.{drop}
use Rattle.std.specs.List.{flat_map}
use Rattle.mv_base.proofs.Gains.{Going}
use Rattle.mv_page.specs.Page.{AddsPiece, paged}
use Rattle.mv_lex.specs.Text.{spaced}
use Rattle.mv_entry.specs.Entries.{lit_words}
use Rattle.mv_entry.proofs.rule_text.put_literals.Given as goal

abbrev pub invariant-loop-literal : goal.invariant-loop-literal
invariant-loop-literal g l =
    Going AddsPiece (paged (g.E.Sink.state l.fn.sink) l.fn.page) (paged (g.E.Sink.state l.sink) l.page) (spaced (flat_map lit_words (drop l.literal-index l.lits))) (spaced (flat_map lit_words l.lits))
