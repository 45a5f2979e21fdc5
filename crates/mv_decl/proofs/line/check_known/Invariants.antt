use Rattle.std.proofs.Common.{◌≡◌, drop}
use Rattle.mv_decl.specs.Line.{redeclared_faults}
use Rattle.mv_decl.proofs.line.check_known.Given as goal

abbrev pub invariant-loop-net : goal.invariant-loop-net
invariant-loop-net l = redeclared_faults l.line l.decls l.values (drop l.net-index l.nets) ≡ redeclared_faults l.line l.decls l.values l.nets
