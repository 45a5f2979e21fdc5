-- The row and the place in it.
use Rattle.std.proofs.Common.{◌∙◌}
use Rattle.mv_gain.proofs.Rows.{found_in, found_past}
use Rattle.mv_gain.proofs.kept.KeptComposites.find.Goals as goal

pub returns-in-Some : goal.returns-in-Some
returns-in-Some c =
    let i = c.in-Some.ensures.lookup in
    c.copied.ensures ∙ (c.get-in-Some.ensures.value ∙ found_in c.args.self.now _ c.args.n.0 c.args.reader.0 c.in-Some.row.now c.deref.ensures.value i.3.0 i.1)

pub returns-in-None : goal.returns-in-None
returns-in-None c = found_past c.args.self.now _ _ _ c.deref.ensures.value c.in-None.ensures.lookup.3
