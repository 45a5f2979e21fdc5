use Rattle.std.proofs.Common.{◌≡◌, take}
use Rattle.indexmap.specs.IndexSet.{insert_all}
use Rattle.mv_cover.specs.Equal.{lit_eq}
use Rattle.mv_gains.proofs.tables.add_all.Given as goal

abbrev pub invariant-loop-literal : goal.invariant-loop-literal
invariant-loop-literal l = l.found.keys ≡ insert_all lit_eq l.fn.found.keys (take l.literal-index l.literals)
