use Rattle.std.proofs.Common.{◌∙◌, ℕ, List, subst, sym}
use Rattle.mv_cover.specs.Covering.{AreWithin}
use Rattle.mv_net.proofs.Totals.{within_counts, default_total, total_answer}
use Rattle.mv_net.proofs.network.Network.is_total.Goals as goal

pub returns-then-is_some : goal.returns-then-is_some
returns-then-is_some c = default_total c.args.self.now c.args.n.0 c.in-Some.cover.now c.well_formed-2.ensures (sym c.in-Some.ensures) (sym c.is_some.ensures ∙ c.if-is_some.true)

pub covers_all-requires : goal.covers_all-requires
covers_all-requires c =
    subst (λ (ks : List ℕ). AreWithin ks c.in-Some.cover.now.lines) (sym c.counts.ensures) (within_counts c.args.self.now c.args.n.0 c.in-Some.cover.now c.well_formed-2.ensures (sym c.in-Some.ensures))

pub returns : goal.returns
returns c = total_answer c.covers_all.result c.args.self.now c.args.n.0 c.in-Some.cover.now c.counts.result.now c.well_formed-2.ensures (sym c.in-Some.ensures) (sym c.is_some.ensures ∙ c.if-is_some.false) c.counts.ensures c.covers_all.ensures
