-- A net with several values and a table gives each of them, or the least that it doesn't goes.
use Rattle.std.proofs.Common.{is_some, sym, ap, arith}
use Rattle.mv_net.proofs.Known.{values_few}
use Rattle.mv_alike.proofs.Choosing.{gives_each, next_ungiven, no_merge_few, no_merge_without}
use Rattle.mv_alike.proofs.next.next_merge.Goals as goal

pub returns-then-values-lt2 : goal.returns-then-values-lt2
returns-then-values-lt2 c = no_merge_few c.args.net.now.nets c.args.n.0 c.values-values.result c.values-values.ensures c.if-values-lt2.true

pub least_ungiven-requires : goal.least_ungiven-requires
least_ungiven-requires c = let few = values_few c.args.net.now c.args.n.0 c.well_formed-2.ensures in omega (arith, few, c.values-values.ensures)

pub next_alike-requires-clause-table : goal.next_alike-requires-clause-table
next_alike-requires-clause-table c = sym (ap is_some c.in-Some.ensures)

pub next_alike-requires-clause-several : goal.next_alike-requires-clause-several
next_alike-requires-clause-several c = omega (arith, c.if-values-lt2.false, c.values-values.ensures)

pub next_alike-requires-clause-given : goal.next_alike-requires-clause-given
next_alike-requires-clause-given c =
    gives_each c.args.net.now.nets c.args.n.0 c.values-values.result c.in-Some.cover.now c.values-values.ensures (sym c.in-Some.ensures) c.in-None-least_ungiven.ensures

pub returns-in-None : goal.returns-in-None
returns-in-None c = no_merge_without c.args.net.now.nets c.args.n.0 c.in-None.ensures

pub returns-in-Some-least_ungiven : goal.returns-in-Some-least_ungiven
returns-in-Some-least_ungiven c =
    next_ungiven c.args.net.now.nets c.args.n.0 c.values-values.result c.in-Some.cover.now c.in-Some-least_ungiven.gone c.values-values.ensures (sym c.in-Some.ensures)
    (omega (arith, c.if-values-lt2.false, c.values-values.ensures)) c.in-Some-least_ungiven.ensures
