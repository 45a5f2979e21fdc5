use Rattle.std.proofs.Common.{◌≡◌, map, take}
use Rattle.mv_unfold.specs.Laid.{places_of, home_in}
use Rattle.mv_unfold.specs.Placed.{place_at}
use Rattle.mv_unfold.specs.Recent.{AreHomes}
use Rattle.mv_unfold.proofs.homes.homes.Given as goal

abbrev pub invariant-loop-net : goal.invariant-loop-net
invariant-loop-net l = record {
  names : l.names ≡ map (place_at (places_of l.layout) l.number).home (take l.net-index l.nets);
  right : AreHomes (home_in l.layout) l.recent.slots;
}
