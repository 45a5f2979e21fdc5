use Rattle.mv_merging.proofs.tables.output_merged.Goals as goal

pub returns : goal.returns
returns c = λ i. record { cube = c.in_ok-cube.ensures.copy i; out = c.in_ok-out.ensures i }
