use Rattle.std.proofs.Common.{◌≡◌, take}
use Rattle.std.specs.Prelude.{map}
use Rattle.mv_lex.specs.declared.lines.LexLine.{LexLine}
use Rattle.mv_blif_line.specs.Tables.{row_of}
use Rattle.mv_blif_line.proofs.table.rows.Given as goal

abbrev pub invariant-loop-line : goal.invariant-loop-line
invariant-loop-line l = l.rows ≡ map (λ (x : LexLine). row_of x.words) (take l.line-index l.lines)
