use Rattle.std.proofs.Common.{take}
use Rattle.mv_decl.specs.Nets.{AreFirst}
use Rattle.mv_decl.proofs.lookup.first_places.Given as goal

abbrev pub invariant-loop-place : goal.invariant-loop-place
invariant-loop-place l = AreFirst l.places (take l.place l.decls)
