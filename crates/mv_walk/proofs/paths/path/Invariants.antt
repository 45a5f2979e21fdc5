use Rattle.std.proofs.Common.{◌≡◌, [], map, drop}
use Rattle.mv_walk.specs.Steps.{path_from}
use Rattle.mv_walk.proofs.paths.path.Given as goal

abbrev pub invariant-loop-instance : goal.invariant-loop-instance
invariant-loop-instance l = path_from l.path.items (map (λ p. p.now) (drop l.instance-index l.instances)) ≡ path_from [] (map (λ p. p.now) l.instances)
