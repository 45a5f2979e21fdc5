-- The columns that are sorted are those of the model.
use Rattle.std.proofs.Common.{refl, ap, arith, length}
use Rattle.std.proofs.lemmas.Bool.{OnTrue_from}
use Rattle.mv_design.specs.Nets.{drivers}
use Rattle.mv_acyclic.proofs.Turns.{model_below, model_length, sorted_acyclic}
use Rattle.mv_acyclic.proofs.seen.stands.Goals as goal

pub sorted-requires-clause-below : goal.sorted-requires-clause-below
sorted-requires-clause-below c = model_below c.args.model.now c.args.columns.now c.requires.once c.requires.columns

pub sorted-requires-clause-few : goal.sorted-requires-clause-few
sorted-requires-clause-few c =
    let l = model_length c.args.model.now c.args.columns.now c.requires.once c.requires.columns in
    let e = ap length c.requires.numbers in
    omega (arith, l, e, c.requires.few)

pub returns-clause-acyclic : goal.returns-clause-acyclic
returns-clause-acyclic c =
    let m = c.args.model.now in
    OnTrue_from c.are_alone.result _
    (λ _. sorted_acyclic m (drivers m) _ c.args.columns.now _ _ c.requires.once refl c.requires.columns refl c.in-Some.is c.in_ok-order.ensures.acyclic)
