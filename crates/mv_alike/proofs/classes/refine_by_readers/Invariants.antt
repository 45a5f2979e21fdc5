use Rattle.std.proofs.Common.{take}
use Rattle.std.specs.List.{list_any}
use Rattle.mv_base.specs.declared.number.NetId.{NetId}
use Rattle.mv_merging.specs.Verdicts.{table_splits}
use Rattle.mv_net.specs.Nets.{slot, table_in}
use Rattle.mv_alike.specs.Classes.{AreRefined}
use Rattle.mv_alike.proofs.classes.refine_by_readers.Given as goal

abbrev pub invariant-loop-reader : goal.invariant-loop-reader
invariant-loop-reader l =
    AreRefined (λ u v. list_any (λ (m : NetId). table_splits l.n.0 u v (table_in (slot l.net.nets m.0))) (take l.reader-index l.readers)) l.fn.classes.items l.classes.items
