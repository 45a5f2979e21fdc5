use Rattle.mv_unfold.proofs.layout.Layout.+add_path.Given as goal

abbrev pub decreases-add_path : goal.decreases-add_path
decreases-add_path l = l.number
