use Rattle.std.proofs.Common.{◌≡◌, ◌++◌, map, take}
use Rattle.std.specs.List.{flat_map}
use Rattle.mv_unfold.specs.Joined.{decl_under}
use Rattle.mv_unfold.specs.Locals.{cut}
use Rattle.mv_unfold.proofs.decls.add_spans.Given as goal

abbrev pub invariant-loop-span : goal.invariant-loop-span
invariant-loop-span l =
    l.decls ≡ l.fn.decls ++ map (decl_under l.path l.values.decls.now) (flat_map (cut l.nets) (take l.span-index l.spans))
