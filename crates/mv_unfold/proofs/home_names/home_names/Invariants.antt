use Rattle.std.proofs.Common.{[], drop}
use Rattle.mv_tree.specs.Places.{homes}
use Rattle.mv_unfold.specs.Laid.{places_of}
use Rattle.mv_unfold.proofs.Named.{IsGathered}
use Rattle.mv_unfold.proofs.home_names.home_names.Given as goal

abbrev pub invariant-loop-number : goal.invariant-loop-number
invariant-loop-number l = IsGathered [] (homes (places_of l.layout)) l.names (homes (drop l.number (places_of l.layout)))
