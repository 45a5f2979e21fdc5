use Rattle.std.proofs.Common.{◌≡◌, length, take, drop}
use Rattle.mv_decl.specs.Nets.{with_decls}
use Rattle.mv_decl.specs.Line.{decls_for}
use Rattle.mv_decl.proofs.line.declare_all.Given as goal

abbrev pub invariant-loop-net : goal.invariant-loop-net
invariant-loop-net l = record {
  said : with_decls l.decls (decls_for l.values (drop l.net-index l.nets)) ≡ with_decls l.fn.decls (decls_for l.values l.nets);
  size : l.before ≡ length l.fn.decls;
  front : take l.before l.decls ≡ l.fn.decls;
}
