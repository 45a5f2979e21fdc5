use Rattle.mv_saving.proofs.Covers.{covers_once}
use Rattle.mv_saving.proofs.law.covers_law.Goals as goal

pub returns : goal.returns
returns c = covers_once
