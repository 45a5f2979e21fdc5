-- The table is a cover for its net.
use Rattle.std.proofs.Common.{sym, subst, All, arith}
use Rattle.mv_cover.specs.Lines.{IsOutput}
use Rattle.mv_cover.specs.declared.line.Line.{Line}
use Rattle.mv_net.specs.Nets.{slot, values_in}
use Rattle.mv_net.proofs.Known.{values_few}
use Rattle.mv_values.proofs.Lines.{all_outputs}
use Rattle.mv_visit.proofs.Tabled.{its_cover}
use Rattle.mv_values.proofs.defaulting.defaulted.Goals as goal

pub take_default-requires-clause-few : goal.take_default-requires-clause-few
take_default-requires-clause-few c = let few = values_few c.args.net.now c.args.n.0 c.well_formed-2.ensures in omega (arith, few, c.values.ensures)

pub take_default-requires-clause-within : goal.take_default-requires-clause-within
take_default-requires-clause-within c =
    let cover = its_cover c.args.net.now c.args.n.0 c.table_of.result.now c.well_formed-2.ensures c.table_of.ensures in
    let values = values_in (slot c.args.net.now.nets c.args.n.0) in
    subst (λ v. All (λ (l : Line). IsOutput v l.out) c.table_of.result.now.lines) (sym c.values.ensures)
    (all_outputs c.args.net.now.nets values c.table_of.result.now.lines cover.lines)
