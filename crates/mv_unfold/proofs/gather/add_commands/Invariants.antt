use Rattle.std.proofs.Common.{◌≡◌, ◌≤◌, drop, length}
use Rattle.mv_unfold.specs.Locals.{with_commands}
use Rattle.mv_unfold.proofs.gather.add_commands.Given as goal

abbrev pub invariant-loop-instance : goal.invariant-loop-instance
invariant-loop-instance l = record {
  within : l.done ≤ length l.namings;
  gathered : with_commands l.nets (drop l.instance-index l.instances) (drop l.done l.namings) ≡ with_commands l.fn.nets l.instances l.namings;
}
