-- Behind cubes nothing comes.
use Rattle.std.proofs.Common.{Ok, refl, sym, subst}
use Rattle.mv_pass.specs.Courses.{Nothing}
use Rattle.mv_pass.specs.Passing.{Passes}
use Rattle.mv_pass.proofs.Stepped.{idle}
use Rattle.mv_extract.specs.declared.kind.Divisors.{Divisors}
use Rattle.mv_extract.specs.Dividing.{behind_of, behind_some}
use Rattle.mv_extract.proofs.noting.note_behind.Goals as goal

pub returns-in-Cubes : goal.returns-in-Cubes
returns-in-Cubes g c =
    let j = g.J.Journal.state c.args.journal.now in
    subst (λ (k : Divisors). Passes c.args.terms.free (behind_of k) (behind_some k) c.args.net.now c.args.net.now j j (Ok tt)) (sym c.in-Cubes.is)
    (idle c.args.terms.free Nothing Nothing c.args.net.now j (refl, refl))
