use Rattle.mv_merging.proofs.Moving.{one_reached, none_reached}
use Rattle.mv_merging.proofs.merging.one_below.Goals as goal

pub returns-then-value-values : goal.returns-then-value-values
returns-then-value-values c = λ v. one_reached c.one.result c.args.values c.args.value.0 v c.one.ensures c.if-value-values.true

pub returns : goal.returns
returns c = λ v. none_reached c.empty.result c.args.values c.args.value.0 v c.empty.ensures c.if-value-values.false
