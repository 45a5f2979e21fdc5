use Rattle.mv_parse_laws.proofs.Fed.{WasFed}
use Rattle.mv_sample.proofs.text.lines.Given as goal

abbrev pub invariant-loop-line : goal.invariant-loop-line
invariant-loop-line l = WasFed l.lexer l.lines
