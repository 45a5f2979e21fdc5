use Rattle.std.proofs.Common.{◌≡◌, take}
use Rattle.mv_table.specs.Entries.{places_of}
use Rattle.mv_table.proofs.entries.places.Given as goal

abbrev pub invariant-loop-net : goal.invariant-loop-net
invariant-loop-net l = l.places.items ≡ places_of l.decls (take l.net-index l.nets)
