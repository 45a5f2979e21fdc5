use Rattle.std.proofs.Common.{List, take, All, Contains}
use Rattle.mv_cover.specs.Literal.{Lit}
use Rattle.mv_cover.specs.Cubes.{IsCube}
use Rattle.mv_gains.specs.Cubes.{AreCommon}
use Rattle.mv_gains.specs.Holders.{AreHolders, places_in}
use Rattle.mv_gains.proofs.cubes.common_cubes.Given as goal

abbrev pub invariant-loop-number : goal.invariant-loop-number
invariant-loop-number l = record {
  common : AreCommon l.cubes l.number l.found.keys;
  formed : All IsCube (take l.number l.cubes);
  held : (m : Lit) → AreHolders (λ (c : List Lit). Contains c m) (take l.number l.cubes) (places_in l.holders m);
}
