use Rattle.std.proofs.Common.{◌≡◌, map, take}
use Rattle.mv_net.specs.Index.{is_reset, kind_in}
use Rattle.mv_net.proofs.seen.reset_marks.Given as goal

abbrev pub invariant-loop-net : goal.invariant-loop-net
invariant-loop-net l = l.marks ≡ map (λ f. is_reset (kind_in f)) (take l.net-index l.nets)
