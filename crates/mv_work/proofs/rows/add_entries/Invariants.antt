use Rattle.std.proofs.Common.{◌≡◌, ◌++◌, drop}
use Rattle.std.specs.List.{flat_map}
use Rattle.mv_work.specs.Drawing.{each}
use Rattle.mv_work.specs.Work.{entry_drawn, entry_text}
use Rattle.mv_work.proofs.rows.add_entries.Given as goal

abbrev pub invariant-loop-values : goal.invariant-loop-values
invariant-loop-values l = record {
  text : l.text.items ++ flat_map entry_text (each entry_drawn (drop l.values-index l.counts) l.random).value ≡ l.fn.text.items ++ flat_map entry_text (each entry_drawn l.counts l.fn.random).value;
  rest : (each entry_drawn (drop l.values-index l.counts) l.random).rest ≡ (each entry_drawn l.counts l.fn.random).rest;
}
