-- The checks before have passed, and the last one decides.
use Rattle.std.proofs.Common.{◌∙◌, sym}
use Rattle.mv_gain.proofs.Going.{can_go_unshared}
use Rattle.mv_gain.proofs.judging.can_go.Goals as goal

pub returns : goal.returns
returns c =
    can_go_unshared c.is_unshared.result c.args.net.now c.args.n.0 c.readers.result.now (sym c.is_tabled.ensures ∙ c.if-not-is_tabled.false) (sym c.is_seen.ensures ∙ c.if-is_seen.false)
    c.readers.ensures (sym c.is_empty.ensures ∙ c.if-is_empty.false) c.is_unshared.ensures
