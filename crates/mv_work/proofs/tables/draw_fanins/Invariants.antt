use Rattle.std.proofs.Common.{◌≡◌, ◌<◌, []}
use Rattle.std.specs.List.{All, fold}
use Rattle.mv_work.specs.Drawing.{several}
use Rattle.mv_work.specs.Work.{fanin_drawn, with_place}
use Rattle.mv_work.proofs.tables.draw_fanins.Given as goal

abbrev pub invariant-fanins : goal.invariant-fanins
invariant-fanins l = record {
  below : All (λ p. p < l.nets) l.fanins.items;
  value : l.fanins.items ≡ fold with_place [] (several (fanin_drawn l.nets) l.counter l.fn.random).value;
  rest : l.random ≡ (several (fanin_drawn l.nets) l.counter l.fn.random).rest;
}
