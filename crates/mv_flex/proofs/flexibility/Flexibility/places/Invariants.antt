use Rattle.mv_flex.specs.Places.{ArePlaces}
use Rattle.mv_flex.proofs.flexibility.Flexibility.places.Given as goal

abbrev pub invariant-loop-number : goal.invariant-loop-number
invariant-loop-number l = ArePlaces l.self l.default l.number l.places
