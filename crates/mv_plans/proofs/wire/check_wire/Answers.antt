-- No net is one of which this is the buffer; or it is one, and is read.
use Rattle.std.proofs.Common.{◌∙◌, refl, sym, inl, inr}
use Rattle.mv_plans.proofs.Named.{listed_reader}
use Rattle.mv_plans.proofs.wire.check_wire.Goals as goal

pub returns-in-None : goal.returns-in-None
returns-in-None c = inr (inl (λ b. c.in-None.ensures b.source b.buffer, refl))

pub returns-else-is_empty : goal.returns-else-is_empty
returns-else-is_empty c = (c.in-Some.ensures, listed_reader c.args.net.now.nets c.args.n.0 c.readers.result.now c.readers.ensures (sym c.is_empty.ensures ∙ c.if-is_empty.false))
