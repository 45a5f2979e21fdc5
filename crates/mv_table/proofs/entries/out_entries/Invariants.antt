use Rattle.std.proofs.Common.{◌≡◌, ◌++◌, drop}
use Rattle.mv_table.specs.Entries.{outs_faults, outs_said}
use Rattle.mv_table.proofs.entries.out_entries.Given as goal

abbrev pub invariant-loop-at : goal.invariant-loop-at
invariant-loop-at l = record {
  said : l.entries ++ outs_said l.decls l.columns.ins.now (drop l.at l.columns.outs.now) (drop l.at l.words) ≡ outs_said l.decls l.columns.ins.now l.columns.outs.now l.words;
  fault : outs_faults l.number l.decls l.columns.ins.now (drop l.at l.columns.outs.now) (drop l.at l.words) ≡ outs_faults l.number l.decls l.columns.ins.now l.columns.outs.now l.words;
}
