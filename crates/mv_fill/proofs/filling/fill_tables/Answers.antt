-- Without marks nothing came.
use Rattle.mv_pass.proofs.Stepped.{stuck}
use Rattle.mv_fill.specs.Fills.{FillsAll, FillsTables}
use Rattle.mv_fill.proofs.Filled.{not_begun}
use Rattle.mv_fill.proofs.filling.fill_tables.Goals as goal

pub returns-in-Err : goal.returns-in-Err
returns-in-Err g c =
    stuck c.args.terms.free (FillsAll c.args.terms.free) (FillsTables c.args.terms.free) c.args.net.now _ (not_begun c.args.terms.free c.args.net.now)
