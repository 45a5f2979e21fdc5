-- A net has no more values than there can be.
use Rattle.std.proofs.Common.{◌≤◌, ℕ, sym, subst}
use Rattle.mv_base.specs.declared.limits.TheConstants.{MAX_VALUES}
use Rattle.mv_net.proofs.Known.{values_few}
use Rattle.mv_plans.proofs.divide.check_body.Goals as goal

pub tidy_cover-requires-clause-few : goal.tidy_cover-requires-clause-few
tidy_cover-requires-clause-few c = subst (λ (k : ℕ). k ≤ MAX_VALUES) (sym c.values.ensures) (values_few c.args.net.now c.args.n.0 c.well_formed-2.ensures)
