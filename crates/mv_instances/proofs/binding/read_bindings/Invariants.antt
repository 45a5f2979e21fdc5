use Rattle.std.proofs.Common.{◌≡◌, take}
use Rattle.std.specs.Prelude.{map}
use Rattle.mv_instances.specs.Binding.{binding_of}
use Rattle.mv_instances.proofs.binding.read_bindings.Given as goal

abbrev pub invariant-loop-word : goal.invariant-loop-word
invariant-loop-word l = l.binds ≡ map binding_of (take l.word-index l.words)
