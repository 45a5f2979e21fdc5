use Rattle.std.proofs.Common.{map, Contains}
use Rattle.mv_meets.specs.Search.{Spreads}
use Rattle.mv_meets.proofs.children.spread.Given as goal

abbrev pub invariant-loop-literal : goal.invariant-loop-literal
invariant-loop-literal l = Spreads l.cubes l.node l.best l.longest (Contains (map (λ x. x.now) l.yielded)) l.fn.waiting.items l.waiting.items
