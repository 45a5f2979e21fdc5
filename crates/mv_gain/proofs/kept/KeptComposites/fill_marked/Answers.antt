-- What is kept stays right while readers are marked.
use Rattle.std.proofs.Common.{sym, subst}
use Rattle.mv_gain.specs.Kept.{AreRight}
use Rattle.mv_gain.proofs.Right.{part_right}
use Rattle.mv_gain.proofs.kept.KeptComposites.fill_marked.Goals as goal
use Rattle.mv_gain.proofs.kept.KeptComposites.fill_marked.Goals.{in-Some+else-not-reads+in_ok-composite+then-is_none, in-Some+else-not-reads+in_ok-composite+else-is_none+then-is_over, in_default}

pub all-init : goal.all-init
all-init c = record { right = part_right _ _ _ c.take_marked-marked.ensures.part c.requires.right; made = c.requires.made }

pub returns-clause-right : goal.returns-clause-right
returns-clause-right c =
    part_right _ _ _ c.set_marked.ensures.part
    (elim c.match-pop_first.branch [
      | in-Some+else-not-reads+in_ok-composite+then-is_none w ↦ subst (AreRight c.args.net.now.nets) (sym w.self-is) w.in_ok-composite.ensures.right
      | in-Some+else-not-reads+in_ok-composite+else-is_none+then-is_over w ↦ subst (AreRight c.args.net.now.nets) (sym w.self-is) w.in_ok-composite.ensures.right
      | in_default w ↦ subst (AreRight c.args.net.now.nets) (sym w.self-is) c.all.invariant.right
    ])
