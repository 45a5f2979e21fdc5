use Rattle.std.proofs.Common.{◌≡◌, take}
use Rattle.mv_design.proofs.copies.copy_models.Given as goal

abbrev pub invariant-loop-model : goal.invariant-loop-model
invariant-loop-model l = l.copied ≡ take l.model-index l.model-items
