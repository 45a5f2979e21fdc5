-- The parts so far, and behind them those of the tokens that are left, are all parts.
use Rattle.std.proofs.Common.{◌≡◌, drop}
use Rattle.mv_script.specs.Reading.{parts_from, all_before, at_start}
use Rattle.mv_script.proofs.reading.parts_from.Given as goal

abbrev pub invariant-loop-token : goal.invariant-loop-token
invariant-loop-token l = parts_from l.end l.tokens at_start ≡ all_before l.parts (parts_from l.end (drop l.token-index l.tokens) l.state)
