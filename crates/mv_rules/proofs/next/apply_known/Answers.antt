-- The network is changed as was planned: the rule applies, so that the network may take the old one's place.
use Rattle.std.proofs.Common.{sym, subst}
use Rattle.mv_rules.specs.Applies.{Applies}
use Rattle.mv_rules.proofs.Meanings.{applied_refines}
use Rattle.mv_rules.proofs.next.apply_known.Goals as goal

pub returns-in-Ok-clause-refines : goal.returns-in-Ok-clause-refines
returns-in-Ok-clause-refines c =
    applied_refines c.args.terms.free c.args.rule.now c.args.net.now c.change.new.self c.well_formed-2.ensures (subst (Applies c.args.terms.free c.args.rule.now c.args.net.now) (sym c.in-Ok.ensures.ok) c.in_ok-change.ensures.makes)
