use Rattle.std.proofs.Common.{◌≡◌, map, take}
use Rattle.mv_base.specs.Set.{full}
use Rattle.mv_wide.proofs.choices.choose_all.Given as goal

abbrev pub invariant-loop-count : goal.invariant-loop-count
invariant-loop-count l = l.choices.items ≡ map full (take l.count-index l.counts)
