use Rattle.std.proofs.Common.{◌≡◌, ◌+◌, drop}
use Rattle.std.specs.List.{position_or_len}
use Rattle.mv_table.specs.Columns.{is_arrow}
use Rattle.mv_table.proofs.columns.arrow_at.Given as goal

abbrev pub invariant-loop-at : goal.invariant-loop-at
invariant-loop-at l = position_or_len is_arrow l.words ≡ l.at + position_or_len is_arrow (drop l.at l.words)
