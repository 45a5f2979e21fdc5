use Rattle.std.proofs.Common.{◌≡◌, take}
use Rattle.mv_design.proofs.copies.copy_binds.Given as goal

abbrev pub invariant-loop-bind : goal.invariant-loop-bind
invariant-loop-bind l = l.copied ≡ take l.bind-index l.bind-items
