use Rattle.std.proofs.Common.{◌≡◌, ◌≤◌, ℕ, length, take, vec_capacity}
use Rattle.mv_pool.specs.Walks.{mark}
use Rattle.mv_diagram.specs.Quantified.{is_one_of}
use Rattle.mv_diagram.proofs.quantify.choose.Given as goal

abbrev pub invariant-loop-var : goal.invariant-loop-var
invariant-loop-var l = record {
  long : length l.chosen.items ≡ l.count;
  marked : (v : ℕ) → mark l.chosen.items v ≡ is_one_of (take l.var-index l.vars) v;
  room : vec_capacity l.fn.chosen ≤ vec_capacity l.chosen;
}
