-- The keys of the set are the first of each of the marks' lines.
use Rattle.std.proofs.Common.{◌∙◌, [], map, ap, refl}
use Rattle.std.proofs.lemmas.List.{take_all}
use Rattle.indexmap.specs.IndexSet.{insert_all}
use Rattle.mv_cover.specs.Equal.{line_eq}
use Rattle.mv_cover.proofs.Absorbing.{inserted_firsts}
use Rattle.mv_rows.specs.Flat.{mark_line}
use Rattle.mv_rows.proofs.table.marks.Goals as goal

pub returns : goal.returns
returns c =
    let lines = c.args.lines.now in
    let keys = c.loop-line.invariant ∙ (ap (λ ls. insert_all line_eq [] (map mark_line ls)) (take_all c.loop-line.line-index lines c.loop-line-test.false) ∙ inserted_firsts (map mark_line lines)) in
    rw (c.in_ok-listed.ensures ∙ keys, c.in_ok-one-2.ensures) refl
