-- A body with a default is total; else its lines tell.
use Rattle.std.proofs.Common.{◌∙◌, ℕ, List, sym, subst}
use Rattle.mv_cover.specs.Covering.{AreWithin}
use Rattle.mv_net.specs.Nets.{slot, values_in}
use Rattle.mv_plans.proofs.Completed.{within_nets, default_not_less, less_answer}
use Rattle.mv_plans.proofs.divide.is_less.Goals as goal

pub returns-then-is_some : goal.returns-then-is_some
returns-then-is_some c =
    default_not_less c.args.net.now c.args.n.0 c.args.table.now c.well_formed-2.ensures c.requires.cover (sym c.is_some.ensures ∙ c.if-is_some.true)

pub covers_all-requires : goal.covers_all-requires
covers_all-requires c =
    subst (λ (ks : List ℕ). AreWithin ks c.args.table.now.lines) (sym c.counts.ensures)
    (within_nets c.args.net.now (values_in (slot c.args.net.now.nets c.args.n.0)) c.args.table.now c.well_formed-2.ensures c.requires.cover)

pub returns : goal.returns
returns c =
    less_answer c.args.net.now c.args.n.0 c.args.table.now c.well_formed-2.ensures c.requires.cover c.in_ok-covers_all.field-0 c.counts.result.now c.counts.ensures (sym c.is_some.ensures ∙ c.if-is_some.false)
    (rw c.if-not-branch.false at c.in_ok-is_total.ensures) c.in_ok-covers_all.ensures
