use Rattle.std.proofs.Common.{◌≡◌, ◌++◌, map}
use Rattle.mv_flat.proofs.Outputs.{net_of}
use Rattle.mv_flat.proofs.nets.put_outputs.Given as goal

abbrev pub invariant-loop-output : goal.invariant-loop-output
invariant-loop-output l = l.nets ≡ l.fn.nets ++ map (net_of l.decls) (map (λ p. (p.0.now, p.1)) l.yielded)
