use Rattle.std.proofs.Common.{◌≡◌, ◌++◌, map, take}
use Rattle.mv_cover.specs.Literal.{Lit}
use Rattle.mv_net.proofs.fanins.add_nets.Given as goal

abbrev pub invariant-loop-lit : goal.invariant-loop-lit
invariant-loop-lit l =
    l.nets.items ≡ l.initial.nets.items ++ map (λ (m : Lit). m.net) (take l.lit-index l.lit-items)
