use Rattle.std.proofs.Common.{◌≡◌, ◌≤◌, length, drop}
use Rattle.mv_cover.specs.Equal.{cube_eq}
use Rattle.mv_kernels.specs.Symbols.{cube_quotient}
use Rattle.mv_divide.proofs.join.is_left.Given as goal

abbrev pub invariant-loop-literal : goal.invariant-loop-literal
invariant-loop-literal l = record {
  within : l.at ≤ length l.others;
  rest : cube_eq (cube_quotient l.symbols (drop l.literal-index l.lits)) (drop l.at l.others) ≡ cube_eq (cube_quotient l.symbols l.lits) l.others;
}
