use Rattle.std.proofs.Common.{inr, sym}
use Rattle.mv_parse.proofs.NamedRoots.{root-found, root-lost}
use Rattle.mv_parse.proofs.roots.root_place.Goals as goal

pub returns-in-Some-place-clause-fault : goal.returns-in-Some-place-clause-fault
returns-in-Some-place-clause-fault c =
    root-found c.args.root c.in-Some.root c.args.names.now c.in-Some-place.place c.in-Some.is (sym c.in-Some-place.ensures)

pub returns-in-None-place-clause-fault : goal.returns-in-None-place-clause-fault
returns-in-None-place-clause-fault c = inr (root-lost c.args.root c.in-Some.root c.args.names.now c.in-Some.is (sym c.in-None-place.ensures))
