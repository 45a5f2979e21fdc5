-- What the sums of the row say.
use Rattle.std.proofs.Common.{◌≤◌, length, subst}
use Rattle.mv_gain.proofs.Judged.{judged, no_row_past}
use Rattle.mv_gain.proofs.Right.{row_right, row_small}
use Rattle.mv_gain.proofs.Rows.{row_at}
use Rattle.mv_gain.proofs.kept.KeptComposites.weigh.Goals as goal

pub weighed-requires-clause-going : goal.weighed-requires-clause-going
weighed-requires-clause-going c =
    let i = c.in-Some.ensures.lookup in
    let at = row_at c.args.self.now _ c.args.n.0 c.in-Some.row.now c.deref.ensures.value i.3.0 i.1 in
    (row_small c.args.net.now.nets c.args.n.0 c.in-Some.row.now (row_right _ c.args.self.now _ _ at c.requires.right) c.few.ensures).going

pub returns-in-Some : goal.returns-in-Some
returns-in-Some c =
    let i = c.in-Some.ensures.lookup in
    let at = row_at c.args.self.now _ c.args.n.0 c.in-Some.row.now c.deref.ensures.value i.3.0 i.1 in
    judged c.args.net.now c.args.self.now c.args.n c.in-Some.row.now _ c.weighed.result c.well_formed-2.ensures c.requires.can c.requires.right c.requires.filled at
    c.literals_of-own.ensures.value c.weighed.ensures

pub returns-in-None : goal.returns-in-None
returns-in-None c = absurd (no_row_past c.args.net.now c.args.self.now c.args.n.0 c.requires.can c.requires.right (subst (λ l. length l ≤ c.args.n.0) c.deref.ensures.value c.in-None.ensures.lookup.3))
