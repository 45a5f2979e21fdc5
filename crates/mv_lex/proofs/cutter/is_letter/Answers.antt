-- The table says it.
use Rattle.std.proofs.Common.{arith}
use Rattle.mv_lex.proofs.Table.{table_entry}
use Rattle.mv_lex.proofs.cutter.is_letter.Goals as goal

pub returns : goal.returns
returns c = table_entry c.args.b (omega arith)
