use Rattle.std.proofs.Common.{◌≡◌, map, take}
use Rattle.mv_gains.specs.Holders.{places_in}
use Rattle.mv_gains.specs.Gains.{covers_at}
use Rattle.mv_gains.specs.Tables.{AreKept}
use Rattle.mv_gains.proofs.tables.Tables.of_nets.Given as goal

abbrev pub invariant-loop-number : goal.invariant-loop-number
invariant-loop-number l = record {
  covers : l.covers.items ≡ map covers_at (take l.number l.nets);
  kept : AreKept l.covers.items (places_in l.holders);
}
