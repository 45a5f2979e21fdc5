use Rattle.std.proofs.Common.{◌≡◌, take}
use Rattle.mv_design.proofs.copies.copy_decls.Given as goal

abbrev pub invariant-loop-decl : goal.invariant-loop-decl
invariant-loop-decl l = l.copied ≡ take l.decl-index l.decl-items
