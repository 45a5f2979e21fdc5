-- Each line gives what is left of it.
use Rattle.std.proofs.Common.{◌∙◌, ap}
use Rattle.std.specs.List.{flat_map}
use Rattle.std.proofs.lemmas.List.{take_all}
use Rattle.mv_merging.specs.Tables.{line_merged}
use Rattle.mv_merging.proofs.Written.{piece_more}
use Rattle.mv_merging.proofs.tables.lines_merged.Goals as goal

pub loop-line-preserved : goal.loop-line-preserved
loop-line-preserved c =
    piece_more (line_merged c.args.m c.args.n.0) c.args.lines.now c.loop-line.line-index c.line-item.result c.loop-line.all c.put_line.new.all c.loop-line-test.true c.line-item.is
    c.loop-line.invariant c.in_ok-put_line.ensures

pub returns : goal.returns
returns c = c.loop-line.invariant ∙ ap (flat_map (line_merged c.args.m c.args.n.0)) (take_all c.loop-line.line-index c.args.lines.now c.loop-line-test.false)
