-- There are no more driven nets than nets.
use Rattle.std.proofs.Common.{◌∙◌, ap, length, arith}
use Rattle.mv_acyclic.proofs.Distinct.{drivers_within}
use Rattle.mv_acyclic.proofs.checking.check.Goals as goal

pub check_above-requires-clause-few : goal.check_above-requires-clause-few
check_above-requires-clause-few c =
    let e = ap length (c.of_names-driven.ensures ∙ c.in_ok-driven.ensures) in
    let l = drivers_within c.args.model.now c.args.nets.now c.requires.once c.requires.nets in
    omega (arith, e, l, c.requires.few)
