use Rattle.std.proofs.Common.{drop}
use Rattle.std.specs.List.{flat_map}
use Rattle.mv_unfold.specs.Locals.{cut}
use Rattle.mv_unfold.specs.Named.{under}
use Rattle.mv_unfold.proofs.Named.{IsGathered}
use Rattle.mv_unfold.proofs.naming.add_spans.Given as goal

abbrev pub invariant-loop-span : goal.invariant-loop-span
invariant-loop-span l =
    IsGathered l.fn.homes (under l.path (flat_map (cut l.nets) l.spans)) l.homes (under l.path (flat_map (cut l.nets) (drop l.span-index l.spans)))
