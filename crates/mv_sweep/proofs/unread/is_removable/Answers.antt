-- A net with readers stays; one without goes where its table is total.
use Rattle.std.proofs.Common.{sym, ◌∙◌}
use Rattle.mv_sweep.proofs.Search.{read_stays, goes_as_total}
use Rattle.mv_sweep.proofs.unread.is_removable.Goals as goal

pub returns-then-not-is_empty : goal.returns-then-not-is_empty
returns-then-not-is_empty c =
    read_stays c.args.net.now c.args.n.0 c.readers.result.now c.readers.ensures (sym c.is_empty.ensures ∙ c.if-not-is_empty.true)

pub returns : goal.returns
returns c =
    goes_as_total c.args.net.now c.args.n.0 c.readers.result.now c.is_total.result (sym c.is_seen.ensures ∙ c.if-is_seen.false) c.readers.ensures (sym c.is_empty.ensures ∙ c.if-not-is_empty.false) c.is_total.ensures
