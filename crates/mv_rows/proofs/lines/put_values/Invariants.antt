use Rattle.mv_rows.specs.Lines.{AddsLines, EachValue}
use Rattle.mv_rows.proofs.lines.put_values.Given as goal

abbrev pub invariant-loop-value : goal.invariant-loop-value
invariant-loop-value l = AddsLines (EachValue l.frame.columns l.sets l.place l.value) l.fn.lines.items l.lines.items
