use Rattle.std.proofs.Common.{◌∙◌, ap}
use Rattle.mv_cover.specs.Marks.{window}
use Rattle.mv_cover.proofs.WideMarks.{wide_marks-placed}
use Rattle.mv_cover.proofs.wide.wide_marks.Goals as goal

pub returns : goal.returns
returns c =
    wide_marks-placed c.args.l.now.set c.args.l.now.net.0 c.digest-had.result c.window.result c.digest-had.ensures
    (c.window.ensures.value ∙ ap window c.net.ensures.number) c.window.ensures.low
