use Rattle.std.proofs.Common.{◌≡◌, ◌+◌, drop}
use Rattle.mv_cover.specs.Sharp.{literals_below}
use Rattle.mv_cover.proofs.sharp.place_of.Given as goal

abbrev pub invariant-loop-place : goal.invariant-loop-place
invariant-loop-place l = l.place + literals_below l.net.0 (drop l.place l.lits) ≡ literals_below l.net.0 l.lits
