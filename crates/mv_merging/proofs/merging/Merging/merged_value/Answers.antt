-- A value stays, or it goes into another or into none.
use Rattle.mv_merging.proofs.Moving.{merged_stays, merged_gone, merged_taken}
use Rattle.mv_merging.proofs.merging.Merging.merged_value.Goals as goal

pub returns-then-value-self : goal.returns-then-value-self
returns-then-value-self c = merged_stays c.args.self c.moved.result c.args.value.0 c.if-value-self.true c.moved.ensures

pub returns-in-None : goal.returns-in-None
returns-in-None c = merged_gone c.args.self c.empty.result c.args.value.0 c.if-value-self.false c.in-None.is c.empty.ensures

pub returns-in-Some : goal.returns-in-Some
returns-in-Some c = merged_taken c.args.self c.in-Some.into c.moved-in-Some.result c.args.value.0 c.if-value-self.false c.in-Some.is c.moved-in-Some.ensures
