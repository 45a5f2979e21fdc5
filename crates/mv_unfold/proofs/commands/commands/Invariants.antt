use Rattle.std.proofs.Common.{◌≡◌, ℕ, ◌<◌, [], length, get_or}
use Rattle.mv_design.specs.Nets.{no_model}
use Rattle.mv_unfold.specs.Commands.{AreCommandsOf}
use Rattle.mv_unfold.proofs.commands.commands.Given as goal

abbrev pub invariant-loop-model : goal.invariant-loop-model
invariant-loop-model l = record {
  long : length l.all ≡ l.model-index;
  each : (k : ℕ) → k < length l.all → AreCommandsOf l.models (get_or l.models k no_model).instances (get_or l.all k []);
}
