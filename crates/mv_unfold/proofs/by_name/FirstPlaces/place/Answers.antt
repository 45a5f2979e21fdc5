use Rattle.std.proofs.Common.{sym}
use Rattle.mv_unfold.proofs.ByName.{not_numbered}
use Rattle.mv_unfold.proofs.by_name.FirstPlaces.place.Goals as goal

pub returns-in-None-get : goal.returns-in-None-get
returns-in-None-get c = not_numbered c.args.self.now c.args.name.now c.in-Some.place (sym c.in-Some.ensures) (sym c.in-None-get.ensures)
