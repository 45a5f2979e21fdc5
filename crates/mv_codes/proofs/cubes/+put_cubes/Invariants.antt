use Rattle.mv_codes.proofs.cubes.+put_cubes.Given as goal

abbrev pub decreases-put_cubes : goal.decreases-put_cubes
decreases-put_cubes l = l.bits
