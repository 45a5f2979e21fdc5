use Rattle.std.proofs.Common.{◌≡◌, ◌++◌}
use Rattle.std.specs.List.{flat_map}
use Rattle.mv_work.specs.Drawing.{several}
use Rattle.mv_work.specs.Work.{row_drawn, row_text}
use Rattle.mv_work.proofs.rows.add_rows.Given as goal

abbrev pub invariant-rows : goal.invariant-rows
invariant-rows l = record {
  text : l.text.items ≡ l.fn.text.items ++ flat_map row_text (several (row_drawn l.counts l.values) l.counter l.fn.random).value;
  rest : l.random ≡ (several (row_drawn l.counts l.values) l.counter l.fn.random).rest;
}
