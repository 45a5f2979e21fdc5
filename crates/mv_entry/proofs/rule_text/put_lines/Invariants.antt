use Rattle.std.proofs.Common.{drop, map}
use Rattle.std.specs.List.{flat_map}
use Rattle.mv_base.proofs.Gains.{Going}
use Rattle.mv_page.specs.Page.{AddsPiece, paged}
use Rattle.mv_lex.specs.Text.{line_text}
use Rattle.mv_entry.specs.Entries.{line_words}
use Rattle.mv_entry.proofs.rule_text.put_lines.Given as goal

abbrev pub invariant-loop-line : goal.invariant-loop-line
invariant-loop-line g l =
    Going AddsPiece (paged (g.E.Sink.state l.fn.sink) l.fn.page) (paged (g.E.Sink.state l.sink) l.page) (flat_map line_text (map line_words (drop l.line-index l.lines))) (flat_map line_text (map line_words l.lines))
