use Rattle.std.proofs.Common.{◌∙◌, ap}
use Rattle.mv_merging.specs.Values.{merged_set}
use Rattle.mv_merging.proofs.tables.set_merged.Goals as goal

pub returns : goal.returns
returns c = c.in_ok-new.ensures ∙ (c.merged-values.ensures ∙ ap (merged_set c.args.m) c.get.ensures)
