-- The line as it is where it asks nothing of the net, else what is left of it with each cube of the codes that it asks for.
use Rattle.std.proofs.Common.{◌∙◌, sym, ap}
use Rattle.mv_cover.specs.Meets.{literal_at}
use Rattle.mv_codes.proofs.Encoded.{gives_unasked, gives_asked}
use Rattle.mv_codes.proofs.coder.put_coded.Goals as goal

pub returns-in_default : goal.returns-in_default
returns-in_default g c =
    gives_unasked (g.T.Taker.takes c.args.taker.now c.take.new.self) c.args.coding.now c.args.line.now c.in_ok-copy.field-0
    (sym (ap (λ x. literal_at x c.args.coding.now.net.0) c.lits.ensures.lits) ∙ (sym c.literal_on.ensures ∙ c.in_default.is)) c.in_ok-copy.ensures.copy c.in_ok-take.ensures

pub returns : goal.returns
returns g c =
    gives_asked (g.T.Taker.takes c.args.taker.now c.put_all.new.taker) c.args.coding.now c.in-Some.set c.args.line.now c.in_ok-rest.rest c.in_ok-cubes.cubes.items c.as_slice.result.now
    (sym (ap (λ x. literal_at x c.args.coding.now.net.0) c.lits.ensures.lits) ∙ (sym c.literal_on.ensures ∙ c.in-Some.is)) c.in_ok-rest.ensures c.in_ok-cubes.ensures c.as_slice.ensures.value c.in_ok-put_all.ensures
