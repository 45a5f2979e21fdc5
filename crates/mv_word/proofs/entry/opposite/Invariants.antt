use Rattle.std.proofs.Common.{◌≡◌, Ok}
use Rattle.mv_word.specs.Entries.{opposites}
use Rattle.mv_word.proofs.entry.opposite.Given as goal

abbrev pub invariant-loop-turn : goal.invariant-loop-turn
invariant-loop-turn l = opposites l.count l._turn (Ok l.fn.set) ≡ Ok l.left
