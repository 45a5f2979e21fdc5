use Rattle.mv_gain.proofs.Rows.{HaveNothing}
use Rattle.mv_gain.proofs.kept.KeptComposites.none.Given as goal

abbrev pub invariant-loop-number : goal.invariant-loop-number
invariant-loop-number l = HaveNothing l.nets.items l._number
