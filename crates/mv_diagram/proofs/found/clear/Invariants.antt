use Rattle.std.proofs.Common.{◌≡◌, ◌<◌, ℕ, false, length}
use Rattle.mv_pool.specs.Walks.{mark}
use Rattle.mv_diagram.proofs.found.clear.Given as goal

abbrev pub invariant-loop-var : goal.invariant-loop-var
invariant-loop-var l = record {
  long : length l.seen ≡ length l.initial.seen;
  none : (v : ℕ) → v < l.var → mark l.seen v ≡ false;
}
