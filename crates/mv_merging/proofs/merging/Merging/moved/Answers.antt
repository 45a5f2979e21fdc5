-- The value that goes has no number behind the merge.
use Rattle.std.proofs.Common.{◌≡◌, arith}
use Rattle.mv_merging.proofs.Moving.{moved_none}
use Rattle.mv_merging.proofs.merging.Merging.moved.Goals as goal

pub returns : goal.returns
returns c =
    let e : c.args.value.0 ≡ c.args.self.gone.0 = omega arith in
    λ v. moved_none c.args.self c.empty.result c.args.value.0 v c.empty.ensures e
