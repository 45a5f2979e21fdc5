use Rattle.std.proofs.Common.{◌≤◌, ◌-◌, List, length, take, drop}
use Rattle.mv_lex.specs.declared.lines.LexLine.{LexLine}
use Rattle.mv_lex.specs.Steps.{HasRead, IsBetween}
use Rattle.mv_lex.proofs.lexer.Lexer.read_ones.Given as goal

abbrev pub invariant-loop-self : goal.invariant-loop-self
invariant-loop-self l = record {
  within : l.at ≤ length l.bytes;
  read : (lines : List LexLine) → HasRead l.initial.self l.self lines lines (take l.at l.bytes);
  between : IsBetween l.self (drop l.at l.bytes);
}

abbrev pub decreases-loop-self : goal.decreases-loop-self
decreases-loop-self l = length l.bytes - l.at
