use Rattle.std.proofs.Common.{◌≡◌, ◌++◌, None, map, take}
use Rattle.mv_net.specs.declared.parts.Kind.TheVariants.{Input}
use Rattle.mv_flat.specs.Built.{file_net}
use Rattle.mv_flat.proofs.nets.add_inputs.Given as goal

abbrev pub invariant-loop-input : goal.invariant-loop-input
invariant-loop-input l = l.nets ≡ l.fn.nets ++ map (file_net l.decls Input None) (take l.input-index l.inputs)
