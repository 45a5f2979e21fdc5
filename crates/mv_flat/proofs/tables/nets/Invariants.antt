use Rattle.std.proofs.Common.{length, All}
use Rattle.mv_flat.specs.Built.{open_nets}
use Rattle.mv_flat.specs.Shared.{IsFrom}
use Rattle.mv_flat.specs.Sized.{AreSized}
use Rattle.mv_flat.proofs.Behinds.{TablesMade}
use Rattle.mv_flat.proofs.tables.nets.Given as goal

abbrev pub invariant-loop-table : goal.invariant-loop-table
invariant-loop-table l =
    record {
      made : TablesMade l.fn.model l.names (length l.yielded) l.last (open_nets l.fn.model) l.nets;
      sized : AreSized l.file_nets l.fn.model l.names (length l.yielded) l.size;
      shared : All (IsFrom l.shared) l.fn.model.tables;
    }
