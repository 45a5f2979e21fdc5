use Rattle.mv_unfold.proofs.homes.+home.Given as goal

abbrev pub decreases-home : goal.decreases-home
decreases-home l = l.number
