-- The values so far, and behind them those of the words that are left, which have the faults of all.
use Rattle.std.proofs.Common.{◌≡◌, ◌++◌, drop, map}
use Rattle.mv_trace.specs.Runs.{row_said, word_faults}
use Rattle.mv_trace.proofs.reader.read_row.Given as goal

abbrev pub invariant-loop-at : goal.invariant-loop-at
invariant-loop-at l = record {
  said : map (λ v. v.0) l.row.items ++ row_said l.net.nets (drop l.at l.columns) (drop l.at l.words) ≡ row_said l.net.nets l.columns l.words;
  faults : word_faults l.net.nets (drop l.at l.columns) l.line.number (drop l.at l.words) ≡ word_faults l.net.nets l.columns l.line.number l.words;
}
