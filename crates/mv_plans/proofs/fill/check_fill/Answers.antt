-- A net has no more values than there can be.
use Rattle.std.proofs.Common.{◌≤◌, ℕ, sym, subst}
use Rattle.mv_base.specs.declared.limits.TheConstants.{MAX_VALUES}
use Rattle.mv_net.proofs.Known.{values_few}
use Rattle.mv_plans.proofs.fill.check_fill.Goals as goal

pub is_output-requires : goal.is_output-requires
is_output-requires c = subst (λ (k : ℕ). k ≤ MAX_VALUES) (sym c.values.ensures) (values_few c.args.net.now c.args.n.0 c.well_formed-2.ensures)
