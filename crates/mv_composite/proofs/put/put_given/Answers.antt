-- The line itself where it asks nothing of a total net, else what is left of it with each cube that the net gives.
use Rattle.std.proofs.Common.{◌∙◌, sym, ap}
use Rattle.mv_cover.specs.Meets.{literal_at}
use Rattle.mv_composite.proofs.Puts.{puts_whole, puts_split}
use Rattle.mv_composite.proofs.put.put_given.Goals as goal

pub returns-then-stays_whole : goal.returns-then-stays_whole
returns-then-stays_whole g c =
    puts_whole (g.T.Taker.takes c.args.taker.now c.take.new.self) c.args.outside.now c.args.inner.now c.args.line.now c.in_ok-copy.field-0 c.literal_on-asked.result
    (c.literal_on-asked.ensures ∙ ap (λ x. literal_at x c.args.inner.now.net.0) c.lits.ensures.lits) (sym c.stays_whole.ensures ∙ c.if-stays_whole.true) c.in_ok-copy.ensures.copy c.in_ok-take.ensures

pub returns : goal.returns
returns g c =
    puts_split (g.T.Taker.takes c.args.taker.now c.put_where.new.taker) c.args.outside.now c.args.inner.now c.args.line.now c.literal_on-asked.result c.in_ok-rest.rest
    (c.literal_on-asked.ensures ∙ ap (λ x. literal_at x c.args.inner.now.net.0) c.lits.ensures.lits) (sym c.stays_whole.ensures ∙ c.if-stays_whole.false) c.in_ok-rest.ensures c.in_ok-put_where.ensures
