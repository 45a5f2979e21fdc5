use Rattle.std.proofs.Common.{◌≡◌, ◌+◌, drop}
use Rattle.mv_relation.specs.Placing.{place_of}
use Rattle.mv_relation.proofs.literals.place_of.Given as goal

abbrev pub invariant-loop-place : goal.invariant-loop-place
invariant-loop-place l = place_of l.var l.literals ≡ l.place + place_of l.var (drop l.place l.literals)
