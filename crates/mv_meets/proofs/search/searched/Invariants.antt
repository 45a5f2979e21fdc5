use Rattle.mv_meets.specs.Search.{IsSearch}
use Rattle.mv_meets.proofs.search.searched.Given as goal

abbrev pub invariant-loop-visited : goal.invariant-loop-visited
invariant-loop-visited l = IsSearch l.cubes l.fn.start l.given l.search
