use Rattle.std.proofs.Common.{◌∙◌, ap, []}
use Rattle.std.proofs.lemmas.List.{take_all}
use Rattle.indexmap.specs.IndexSet.{insert_all}
use Rattle.mv_cover.specs.Equal.{line_eq}
use Rattle.mv_cover.proofs.Absorbing.{inserted_firsts}
use Rattle.mv_composite.proofs.picked.line_set.Goals as goal

pub returns : goal.returns
returns c =
    c.loop-line.invariant ∙ (ap (insert_all line_eq []) (take_all c.loop-line.line-index c.args.lines.now c.loop-line-test.false) ∙ inserted_firsts c.args.lines.now)
