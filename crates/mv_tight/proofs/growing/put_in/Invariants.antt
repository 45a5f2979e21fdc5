use Rattle.std.proofs.Common.{◌≡◌, ◌++◌, drop}
use Rattle.mv_tight.specs.Growing.{put_in}
use Rattle.mv_tight.proofs.growing.put_in.Given as goal

abbrev pub invariant-loop-literal : goal.invariant-loop-literal
invariant-loop-literal l = l.grown.items ++ put_in l.m.0 l.values l.all (drop l.literal-index l.lits) ≡ put_in l.m.0 l.values l.all l.lits
