use Rattle.std.proofs.Common.{◌≡◌, take}
use Rattle.mv_tree.specs.Unfolded.{decls_in}
use Rattle.mv_unfold.specs.Laid.{places_of}
use Rattle.mv_unfold.proofs.decls.decls.Given as goal

abbrev pub invariant-loop-number : goal.invariant-loop-number
invariant-loop-number l = l.decls ≡ decls_in (take l.number (places_of l.layout))
