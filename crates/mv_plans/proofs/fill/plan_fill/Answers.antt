-- The change gives the table its default.
use Rattle.std.proofs.Common.{ℕ, subst}
use Rattle.mv_plans.specs.Filling.{CanFill}
use Rattle.mv_plans.proofs.Filled.{planned}
use Rattle.mv_plans.proofs.fill.plan_fill.Goals as goal

pub returns : goal.returns
returns c =
    let P : ℕ → Type 0 = λ set. CanFill c.args.free c.args.net.now.nets c.in-Some.n.0 set in
    planned c.args.free c.args.net.now c.args.name.now c.args.out.now c.in-Some.n c.table_of.result.now c.well_formed-2.ensures c.few.ensures c.in-Some.ensures
    (subst P c.get.ensures c.in-Ok.ensures) c.table_of.ensures c.in_ok-filling.field-0 c.in_ok-filling.ensures
