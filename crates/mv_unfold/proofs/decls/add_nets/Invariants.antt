use Rattle.std.proofs.Common.{◌≡◌, ◌++◌, map, take}
use Rattle.mv_unfold.specs.Joined.{decl_under}
use Rattle.mv_unfold.proofs.decls.add_nets.Given as goal

abbrev pub invariant-loop-net : goal.invariant-loop-net
invariant-loop-net l = l.decls ≡ l.fn.decls ++ map (decl_under l.path l.values.decls.now) (take l.net-index l.nets)
