use Rattle.std.proofs.Common.{◌≤◌, ◌-◌, length, take}
use Rattle.mv_lex.specs.Steps.{HasRead}
use Rattle.mv_lex.proofs.lexer.Lexer.read_all.Given as goal

abbrev pub invariant-loop-at : goal.invariant-loop-at
invariant-loop-at l = record {
  within : l.at ≤ length l.piece;
  read : HasRead l.initial.self l.self l.initial.lines l.lines (take l.at l.piece);
}

abbrev pub decreases-loop-at : goal.decreases-loop-at
decreases-loop-at l = length l.piece - l.at
