use Rattle.mv_parse_laws.proofs.Fed.{WasFed}
use Rattle.mv_bench.proofs.lexing.lines_of_input.Given as goal

abbrev pub invariant-loop-piece : goal.invariant-loop-piece
invariant-loop-piece l = WasFed l.lexer l.lines
