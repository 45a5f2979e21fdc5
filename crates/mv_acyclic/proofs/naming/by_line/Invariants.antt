use Rattle.std.proofs.Common.{◌≡◌, ◌≤◌, ◌++◌, drop, length}
use Rattle.mv_design.specs.ByLine.{by_line}
use Rattle.mv_acyclic.proofs.naming.by_line.Given as goal

abbrev pub invariant-loop-naming : goal.invariant-loop-naming
invariant-loop-naming l = record {
  within : l.done ≤ length l.second;
  merged : l.all.items ++ by_line (λ x. x.line) (drop l.naming-index l.first) (drop l.done l.second) ≡ by_line (λ x. x.line) l.first l.second;
}
