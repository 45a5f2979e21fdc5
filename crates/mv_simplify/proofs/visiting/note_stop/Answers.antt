-- For want of memory nothing is noted.
use Rattle.std.proofs.Common.{refl}
use Rattle.mv_pass.specs.Courses.{Perhaps, Still}
use Rattle.mv_pass.proofs.Stepped.{stuck}
use Rattle.mv_simplify.specs.Simplifying.{Visit}
use Rattle.mv_simplify.proofs.visiting.note_stop.Goals as goal

pub returns-in-Memory : goal.returns-in-Memory
returns-in-Memory g c = stuck c.args.asked.terms.free (Visit c.args.asked c.args.n.0) (Perhaps (Visit c.args.asked c.args.n.0)) c.args.net.now _ (Still (refl, refl))
