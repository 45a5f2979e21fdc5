-- The table says it.
use Rattle.std.proofs.Common.{arith}
use Rattle.mv_word.proofs.Plain.{table_entry}
use Rattle.mv_word.proofs.names.is_plain.Goals as goal

pub returns : goal.returns
returns c = table_entry c.args.byte (omega arith)
