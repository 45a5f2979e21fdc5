use Rattle.std.proofs.Common.{arith}
use Rattle.mv_factors.proofs.Sighting.{rows_fewer}
use Rattle.mv_factors.proofs.elimination.Elimination.eliminate.Goals as goal

pub eliminate_left-requires-clause-rows : goal.eliminate_left-requires-clause-rows
eliminate_left-requires-clause-rows c =
    let fits = rw (← c.self.view_is) at c.requires.fits in
    rw c.look_at_all.ensures.same
    (c.look_at_all.ensures.rows _ _ (rw c.prepare.ensures.rows (rows_fewer _ _ _ _ _ fits.places fits.vars c.self.invariant.marked)))

pub invariant_of-self : goal.invariant_of-self
invariant_of-self c =
    c.eliminate_left.ensures.room c.self.inside.places c.self.inside.vars (record {
      marked = c.look_at_all.ensures.rows _ _ (rw c.prepare.ensures.rows c.self.invariant.marked);
      sized = omega (arith, c.self.invariant.sized, c.prepare.ensures.sizes, c.look_at_all.ensures.work.sizes);
      priced = omega (arith, c.self.invariant.priced, c.prepare.ensures.costs, c.look_at_all.ensures.work.costs);
      listed = rw c.look_at_all.ensures.work.left (omega (arith, c.self.invariant.listed, c.prepare.ensures.left));
    })
