use Rattle.std.proofs.Common.{◌≡◌, take, true}
use Rattle.std.specs.List.{list_all}
use Rattle.mv_acyclic.specs.Glance.{is_short}
use Rattle.mv_acyclic.proofs.seen.are_short.Given as goal

abbrev pub invariant-loop-name : goal.invariant-loop-name
invariant-loop-name l = list_all is_short (take l.name-index l.names) ≡ true
