-- Some composites are too wide, or there are as many as readers.
use Rattle.std.proofs.Common.{◌∙◌, sym, eqb-true}
use Rattle.std.proofs.lemmas.Bool.{ltb-true}
use Rattle.mv_gain.proofs.Right.{filled_wide, filled_all}
use Rattle.mv_gain.proofs.Rows.{row_at}
use Rattle.mv_gain.proofs.kept.KeptComposites.is_filled.Goals as goal

pub returns-then-row-gt0 : goal.returns-then-row-gt0
returns-then-row-gt0 c = λ many.
    let i = c.in-Some.ensures.lookup in
    filled_wide _ _ _ c.in-Some.row.now (row_at c.args.self.now _ c.args.n.0 c.in-Some.row.now c.deref.ensures.value i.3.0 i.1) c.requires.right (ltb-true 0 c.in-Some.row.now.wide many)

pub returns-else-row-gt0 : goal.returns-else-row-gt0
returns-else-row-gt0 c = λ same.
    let i = c.in-Some.ensures.lookup in
    filled_all c.args.net.now.nets _ _ c.in-Some.row.now c.readers.result.now (row_at c.args.self.now _ c.args.n.0 c.in-Some.row.now c.deref.ensures.value i.3.0 i.1) c.requires.right c.readers.ensures
    (sym c.len.ensures.len ∙ eqb-true c.len.result _ same)
