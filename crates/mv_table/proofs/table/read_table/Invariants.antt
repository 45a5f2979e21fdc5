use Rattle.std.proofs.Common.{◌≡◌, take, drop}
use Rattle.mv_table.specs.Tables.{rows_of, default_of, lines_values_faults}
use Rattle.mv_table.proofs.table.read_table.Given as goal

abbrev pub invariant-loop-line : goal.invariant-loop-line
invariant-loop-line l = record {
  rows : l.rows ≡ rows_of l.decls l.ins l.outs (take l.line-index l.lines);
  default : l.default ≡ default_of l.decls l.ins l.outs (take l.line-index l.lines);
  fault : lines_values_faults l.decls l.ins l.outs (drop l.line-index l.lines) ≡ lines_values_faults l.decls l.ins l.outs l.lines;
}
