use Rattle.std.proofs.Common.{◌≡◌, take}
use Rattle.mv_flex.specs.Places.{all_times}
use Rattle.mv_flex.proofs.left.all_times.Given as goal

abbrev pub invariant-loop-values : goal.invariant-loop-values
invariant-loop-values l = l.counts.items ≡ all_times l.nets l.lines (take l.values-index l.places)
