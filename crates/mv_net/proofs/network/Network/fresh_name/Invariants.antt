use Rattle.std.proofs.Common.{◌≡◌, ◌+◌, ◌-◌, not, count_by}
use Rattle.std.specs.List.{range_with_len}
use Rattle.mv_net.specs.Fresh.{is_taken}
use Rattle.mv_net.proofs.network.Network.fresh_name.Given as goal

abbrev pub invariant-loop-number : goal.invariant-loop-number
invariant-loop-number l = count_by (λ k. not (is_taken l.self.nets k)) (range_with_len 1 (l.number - 1)) + l.left ≡ l.skip
