use Rattle.std.proofs.lemmas.Slice.Eq.{slice_eq-Decides, bytes_eq-Decides}
use Rattle.mv_verify.proofs.Looks.{answered}
use Rattle.mv_verify.proofs.interface.same_names.Goals as goal

pub returns : goal.returns
returns c = answered c.eq.result _ (slice_eq-Decides bytes_eq-Decides c.args.b.now c.args.a.now c.eq.result c.eq.ensures)
