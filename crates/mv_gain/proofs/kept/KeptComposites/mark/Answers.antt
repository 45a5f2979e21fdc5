-- The row of each net has the same pairs.
use Rattle.std.proofs.Common.{refl, sym, subst}
use Rattle.mv_gain.specs.Pairs.{IsPart}
use Rattle.mv_gain.proofs.Forgetting.{part_of_part}
use Rattle.mv_gain.proofs.Rows.{writes_row, row_same}
use Rattle.mv_gain.proofs.kept.KeptComposites.mark.Goals as goal
use Rattle.mv_gain.proofs.kept.KeptComposites.mark.Goals.{in-Some+in_ok-mark-in-Some, in-None}

pub loop-n-preserved : goal.loop-n-preserved
loop-n-preserved c = elim c.match-get_mut.branch [
  | in-Some+in_ok-mark-in-Some w ↦
      let i = w.in-Some.ensures.item in
      subst (IsPart c.args.self.now) (sym w.self-is)
      (part_of_part _ c.loop-n.self _ c.loop-n.invariant (row_same _ _ _ _ _ (writes_row _ _ _ w.in-Some.row.now w.mark.new.self i.3.0 i.1 refl) w.in_ok-mark-in-Some.ensures).part)
  | in-None w ↦ subst (IsPart c.args.self.now) (sym w.self-is) c.loop-n.invariant
]
