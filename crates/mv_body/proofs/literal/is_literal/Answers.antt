use Rattle.std.proofs.Common.{◌≤◌, sym, subst}
use Rattle.mv_base.specs.declared.limits.TheConstants.{MAX_VALUES}
use Rattle.mv_net.proofs.Known.{values_few}
use Rattle.mv_body.proofs.literal.is_literal.Goals as goal

pub is_output-requires : goal.is_output-requires
is_output-requires c =
    subst (λ n. n ≤ MAX_VALUES) (sym c.values-values.ensures) (values_few c.args.net.now c.net.result.0 c.well_formed-2.ensures)

pub full-requires : goal.full-requires
full-requires c =
    subst (λ n. n ≤ MAX_VALUES) (sym c.values-values.ensures) (values_few c.args.net.now c.net.result.0 c.well_formed-2.ensures)
