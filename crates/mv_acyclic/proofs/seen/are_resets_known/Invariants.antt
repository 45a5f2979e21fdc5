use Rattle.std.proofs.Common.{◌≡◌, take, true}
use Rattle.std.specs.List.{list_all}
use Rattle.mv_acyclic.specs.Glance.{columns_known}
use Rattle.mv_acyclic.proofs.seen.are_resets_known.Given as goal

abbrev pub invariant-loop-reset : goal.invariant-loop-reset
invariant-loop-reset l = list_all (columns_known l.numbers) (take l.reset-index l.resets) ≡ true
