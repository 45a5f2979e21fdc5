use Rattle.std.proofs.Common.{◌≡◌, drop, length}
use Rattle.std.specs.Prelude.{All}
use Rattle.mv_lex.specs.declared.lines.LexLine.{LexLine}
use Rattle.mv_parse.specs.Steps.{HasFewColumns}
use Rattle.mv_parse.proofs.Values.{IsRead}
use Rattle.mv_parse.proofs.tables.contents.Given as goal

abbrev pub invariant-loop-at : goal.invariant-loop-at
invariant-loop-at l = record {
  size : length l.left ≡ length l.fn.lines;
  narrow : All (λ (x : LexLine). HasFewColumns x) (drop l.at l.left);
  read : IsRead l.decls l.fn.lines (drop l.at l.left) l.contents;
}
