use Rattle.std.proofs.Common.{◌≡◌, ◌++◌, None, map, take}
use Rattle.mv_net.specs.declared.parts.Kind.TheVariants.{Latch}
use Rattle.mv_flat.specs.Built.{file_net}
use Rattle.mv_flat.proofs.nets.add_states.Given as goal

abbrev pub invariant-loop-latch : goal.invariant-loop-latch
invariant-loop-latch l = l.nets ≡ l.fn.nets ++ map (file_net l.decls Latch None) (map (λ x. x.output) (take l.latch-index l.latches))
