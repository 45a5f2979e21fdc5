-- The line as it is where it doesn't read the net, else its other literals with one on the other net.
use Rattle.std.proofs.Common.{◌∙◌, sym, ap}
use Rattle.mv_cover.specs.Meets.{literal_at}
use Rattle.mv_composite.proofs.Wires.{some_set, puts_unread, puts_wired}
use Rattle.mv_composite.proofs.wiring.put_wired.Goals as goal

pub returns-in_default-clause-puts : goal.returns-in_default-clause-puts
returns-in_default-clause-puts c =
    puts_unread c.args.left.now c.take.new.self c.args.net.0 c.args.into.0 c.args.line.now c.in_ok-copy.field-0
    (sym (ap (λ x. literal_at x c.args.net.0) c.lits.ensures.lits) ∙ (sym c.literal_on.ensures ∙ c.in_default.is)) c.in_ok-copy.ensures.copy c.in_ok-take.ensures

pub one_literal-requires : goal.one_literal-requires
one_literal-requires c =
    some_set c.args.line.now.cube c.args.net.0 c.in-Some.set c.lits.ensures.formed
    (sym (ap (λ x. literal_at x c.args.net.0) c.lits.ensures.lits) ∙ (sym c.literal_on.ensures ∙ c.in-Some.is))

pub returns-clause-puts : goal.returns-clause-puts
returns-clause-puts c =
    puts_wired c.args.left.now c.put_met.new.taker c.args.net.0 c.args.into.0 c.in-Some.set c.args.line.now c.in_ok-rest.rest c.in_ok-literal.literal
    (sym (ap (λ x. literal_at x c.args.net.0) c.lits.ensures.lits) ∙ (sym c.literal_on.ensures ∙ c.in-Some.is)) c.in_ok-rest.ensures c.in_ok-literal.ensures c.in_ok-put_met.ensures
