use Rattle.std.proofs.Common.{◌≡◌, [], drop}
use Rattle.mv_instances.specs.Binding.{bindings_faults}
use Rattle.mv_instances.proofs.binding.check_bindings.Given as goal

abbrev pub invariant-loop-binding : goal.invariant-loop-binding
invariant-loop-binding l = bindings_faults l.number l.word l.bound (drop l.binding-index l.bindings) ≡ bindings_faults l.number l.word [] l.bindings
