use Rattle.std.proofs.Common.{◌<◌, ◌∙◌, length, arith}
use Rattle.std.proofs.lemmas.Bool.{lt-ltb}
use Rattle.mv_factors.specs.Leaving.{is_inner}
use Rattle.mv_wide.proofs.Missing.{adds_missed}
use Rattle.mv_wide.proofs.missed.unite_missed.Goals as goal

pub returns-in-Ok-unite-clause-set : goal.returns-in-Ok-unite-clause-set
returns-in-Ok-unite-clause-set c =
    let is = c.len-last.ensures in
    let some : 0 < length c.args.factors.now.list = omega arith in
    let low : 0 < c.len-last.result = omega arith in
    adds_missed c.args.factors.now _ _ c.args.tables c.args.left_out c.args.place c.len-last.result (is_inner c.args.beside.now) some
    c.add_missed.ensures.keeps is c.in-Ok.ensures.set
    (λ p. c.cut.ensures.keeps.sets 0 p (lt-ltb 0 c.len-last.result low) ∙ c.in-Ok-unite.ensures.set p)
