use Rattle.std.proofs.Common.{◌≡◌, filter}
use Rattle.mv_gains.specs.Renewing.{is_other}
use Rattle.mv_gains.proofs.gains.without.Given as goal

abbrev pub invariant-loop-candidate : goal.invariant-loop-candidate
invariant-loop-candidate l = l.left.items ≡ filter (is_other l.waiting) l.yielded
