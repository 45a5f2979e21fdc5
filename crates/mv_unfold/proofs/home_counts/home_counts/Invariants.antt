use Rattle.std.proofs.Common.{◌≡◌, ℕ, List, map, take}
use Rattle.mv_tree.specs.Places.{homes}
use Rattle.mv_unfold.specs.Driven.{AreTold}
use Rattle.mv_unfold.specs.Laid.{places_of}
use Rattle.mv_unfold.proofs.home_counts.home_counts.Given as goal

abbrev pub invariant-loop-number : goal.invariant-loop-number
invariant-loop-number l =
    (tells : List ℕ → ℕ) → AreTold l.layout l.slots l.root tells → l.counts.items ≡ map tells (homes (take l.number (places_of l.layout)))
