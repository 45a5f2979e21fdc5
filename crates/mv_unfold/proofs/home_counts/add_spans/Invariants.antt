use Rattle.std.proofs.Common.{◌≡◌, ◌++◌, take}
use Rattle.std.specs.List.{flat_map}
use Rattle.mv_unfold.specs.Locals.{cut}
use Rattle.mv_unfold.proofs.home_counts.add_spans.Given as goal

abbrev pub invariant-loop-span : goal.invariant-loop-span
invariant-loop-span l = l.counts.items ≡ l.fn.counts.items ++ flat_map (cut l.inner) (take l.span-index l.spans)
