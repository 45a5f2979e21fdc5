-- Each line has its output behind the merge.
use Rattle.std.proofs.Common.{◌∙◌, ap, map}
use Rattle.std.proofs.lemmas.List.{take_all}
use Rattle.mv_merging.specs.Tables.{output_merged}
use Rattle.mv_merging.proofs.Written.{one_more}
use Rattle.mv_merging.proofs.tables.outputs_merged.Goals as goal

pub loop-line-preserved : goal.loop-line-preserved
loop-line-preserved c =
    one_more (output_merged c.args.m) c.args.lines.now c.loop-line.line-index c.line-item.result c.in_ok-new.new c.loop-line.all c.push.new.self c.loop-line-test.true c.line-item.is c.in_ok-new.ensures
    c.loop-line.invariant c.in_ok-push.ensures.ok

pub returns : goal.returns
returns c = c.loop-line.invariant ∙ ap (map (output_merged c.args.m)) (take_all c.loop-line.line-index c.args.lines.now c.loop-line-test.false)
