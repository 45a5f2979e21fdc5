use Rattle.std.proofs.Common.{◌≡◌, ◌++◌, drop, take}
use Rattle.mv_design.specs.ByLine.{before_line}
use Rattle.mv_acyclic.proofs.naming.front_before.Given as goal

abbrev pub invariant-loop-count : goal.invariant-loop-count
invariant-loop-count l = before_line (λ x. x.line) l.line l.namings ≡ take l.count l.namings ++ before_line (λ x. x.line) l.line (drop l.count l.namings)
