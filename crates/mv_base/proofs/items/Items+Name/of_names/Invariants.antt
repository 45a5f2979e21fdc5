use Rattle.std.proofs.Common.{◌≡◌, take}
use Rattle.mv_base.proofs.items.Items+Name.of_names.Given as goal

abbrev pub invariant-loop-name : goal.invariant-loop-name
invariant-loop-name l = l.list ≡ take l.name-index l.names
