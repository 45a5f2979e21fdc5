use Rattle.std.proofs.Common.{◌≡◌, ◌++◌, drop}
use Rattle.mv_table.specs.Entries.{ins_faults, ins_said}
use Rattle.mv_table.proofs.entries.in_entries.Given as goal

abbrev pub invariant-loop-at : goal.invariant-loop-at
invariant-loop-at l = record {
  said : l.sets ++ ins_said l.decls (drop l.at l.columns.ins.now) (drop l.at l.words) ≡ ins_said l.decls l.columns.ins.now l.words;
  fault : ins_faults l.number l.decls (drop l.at l.columns.ins.now) (drop l.at l.words) ≡ ins_faults l.number l.decls l.columns.ins.now l.words;
}
