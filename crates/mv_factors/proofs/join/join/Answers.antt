use Rattle.mv_factors.proofs.Joining.{rows_then}
use Rattle.mv_factors.proofs.Sighting.{sees_then}
use Rattle.mv_factors.proofs.join.join.Goals as goal

pub fill-requires-clause-rows : goal.fill-requires-clause-rows
fill-requires-clause-rows c = rows_then _ _ _ _ c.meet.ensures.sees c.requires.rows

pub returns-in-Ok-clause-sees : goal.returns-in-Ok-clause-sees
returns-in-Ok-clause-sees c = sees_then _ _ _ _ _ _ c.meet.ensures.sees c.fill.ensures.sees
