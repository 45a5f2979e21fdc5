use Rattle.mv_gains.proofs.Dividing.{leaves_less, undivided_saves, table_once}
use Rattle.mv_gains.proofs.law.table_law.Goals as goal

pub returns : goal.returns
returns c = record { divided = leaves_less; undivided = undivided_saves; once = table_once }
