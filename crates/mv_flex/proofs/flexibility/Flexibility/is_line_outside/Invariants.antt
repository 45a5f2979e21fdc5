use Rattle.std.proofs.Common.{◌≡◌, ◌<◌, ℕ, true, false, get_or}
use Rattle.mv_flex.specs.Checks.{line_allows}
use Rattle.mv_flex.proofs.flexibility.Flexibility.is_line_outside.Given as goal

abbrev pub invariant-loop-pair : goal.invariant-loop-pair
invariant-loop-pair l = (q : ℕ) → q < l.pair → get_or l.self.outside q false ≡ true → line_allows l.self l.line q ≡ false
