use Rattle.std.proofs.Common.{◌≡◌, ℕ, ◌*◌, ◌≤◌, ◌<◌, ◌^◌, take}
use Rattle.mv_net.specs.Nets.{slot, table_in, table_literals, literals_in}
use Rattle.mv_net.proofs.tallies.literals_in.Given as goal

abbrev pub invariant-loop-net : goal.invariant-loop-net
invariant-loop-net l = record {
  value : l.total ≡ literals_in (take l.net-index l.nets);
  most : l.total ≤ 2 ^ 96 * l.net-index;
  few : (n : ℕ) → n < l.net-index → table_literals (table_in (slot l.nets n)) ≤ 2 ^ 96;
}
