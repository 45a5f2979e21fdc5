use Rattle.std.proofs.Common.{◌≡◌, take}
use Rattle.indexmap.specs.IndexSet.{insert_all}
use Rattle.mv_cover.specs.Equal.{lit_eq}
use Rattle.mv_kernels.proofs.symbols.add.Given as goal

abbrev pub invariant-loop-l : goal.invariant-loop-l
invariant-loop-l l = l.found.keys ≡ insert_all lit_eq l.fn.found.keys (take l.l-index l.lits)
