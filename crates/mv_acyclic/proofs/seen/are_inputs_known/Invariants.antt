use Rattle.std.proofs.Common.{◌≡◌, take, true}
use Rattle.std.specs.List.{list_all}
use Rattle.mv_acyclic.specs.Glance.{input_known}
use Rattle.mv_acyclic.proofs.seen.are_inputs_known.Given as goal

abbrev pub invariant-loop-latch : goal.invariant-loop-latch
invariant-loop-latch l = list_all (input_known l.numbers) (take l.latch-index l.latches) ≡ true
