use Rattle.std.proofs.Common.{refl}
use Rattle.mv_base.specs.SetInside.{words}
use Rattle.mv_base.proofs.WordLemmas.{cmp-words}
use Rattle.mv_base.proofs.value_set.ValueSetOrd.cmp.Goals as goal

pub returns : goal.returns
returns c =
    let order = cmp-words (words c.self.inside) (words c.other.inside) refl c.self.invariant c.other.invariant in
    rw (c.then-7.ensures, c.then-6.ensures, c.then-5.ensures, c.then-4.ensures, c.then-3.ensures, c.then-2.ensures, c.then.ensures, c.cmp.ensures, c.cmp-2.ensures, c.cmp-3.ensures, c.cmp-4.ensures, c.cmp-5.ensures, c.cmp-6.ensures, c.cmp-7.ensures, c.cmp-8.ensures, ← c.self.view_is, ← c.other.view_is) order
