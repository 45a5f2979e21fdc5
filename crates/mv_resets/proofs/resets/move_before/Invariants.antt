use Rattle.std.proofs.Common.{◌≡◌, ◌++◌, length}
use Rattle.mv_design.specs.ByLine.{before_line, from_line}
use Rattle.mv_resets.proofs.resets.move_before.Given as goal

abbrev pub invariant-loop-rest : goal.invariant-loop-rest
invariant-loop-rest l = record {
  moved : l.all.items ++ before_line (λ t. t.line) l.line l.rest.items ≡ l.fn.all.items ++ before_line (λ t. t.line) l.line l.fn.rest.items;
  rest : from_line (λ t. t.line) l.line l.rest.items ≡ from_line (λ t. t.line) l.line l.fn.rest.items;
}

abbrev pub decreases-loop-rest : goal.decreases-loop-rest
decreases-loop-rest l = length l.rest.items
