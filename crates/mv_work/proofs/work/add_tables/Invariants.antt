use Rattle.std.proofs.Common.{◌≡◌, ◌+◌, ◌<◌, ◌++◌, length}
use Rattle.std.specs.List.{All, flat_map}
use Rattle.mv_work.specs.Work.{tables_drawn, counts_of, table_text}
use Rattle.mv_work.proofs.work.add_tables.Given as goal

abbrev pub invariant-tables : goal.invariant-tables
invariant-tables l = record {
  size : length l.counts.items ≡ 16 + l.counter;
  positive : All (λ n. 0 < n) l.counts.items;
  counts : l.counts.items ≡ counts_of (tables_drawn l.counter l.fn.random).value;
  text : l.text.items ≡ l.fn.text.items ++ flat_map table_text (tables_drawn l.counter l.fn.random).value;
  rest : l.random ≡ (tables_drawn l.counter l.fn.random).rest;
}
