-- The names so far are the first ones.
use Rattle.mv_encode.specs.Encoding.{AreFirst}
use Rattle.mv_encode.proofs.names.first_names.Given as goal

abbrev pub invariant-loop-skip : goal.invariant-loop-skip
invariant-loop-skip l = AreFirst l.net.nets l.skip l.names
