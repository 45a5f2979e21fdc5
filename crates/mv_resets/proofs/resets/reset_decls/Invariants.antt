use Rattle.std.proofs.Common.{◌≡◌, map, take}
use Rattle.mv_resets.specs.Resets.{reset_decl}
use Rattle.mv_resets.proofs.resets.reset_decls.Given as goal

abbrev pub invariant-loop-reset : goal.invariant-loop-reset
invariant-loop-reset l = l.more ≡ map (reset_decl l.decls) (take l.reset-index l.resets)
