-- Each line leaves the sharps of what there was.
use Rattle.std.proofs.Common.{◌∙◌, ap}
use Rattle.mv_cover.specs.Complement.{sharps_of}
use Rattle.mv_cover.proofs.Sharps.{pushed_first}
use Rattle.mv_determine.proofs.Cutting.{beyond_more, beyond_none, beyond_wide}
use Rattle.mv_determine.proofs.behind.cubes_outside.Goals as goal

pub loop-line-init : goal.loop-line-init
loop-line-init c =
    beyond_none c.args.counts.now c.args.lines.now c.args.cube.now c.push.new.self.items (record { cube = c.copy.ensures.formed; suits = c.requires.own })
    (pushed_first c.push.new.self.items c.new-cubes.result.items c.in_ok-copy.field-0 c.args.cube.now c.in_ok-push.ensures.items c.new-cubes.ensures.items c.in_ok-copy.ensures.copy)

pub loop-line-preserved : goal.loop-line-preserved
loop-line-preserved c =
    beyond_more c.args.counts.now c.args.lines.now c.args.cube.now c.loop-line.line-index c.loop-line.cubes.items c.in-Ok.left.items c.line-item.result c.loop-line-test.true c.line-item.is c.loop-line.invariant
    (c.in-Ok.ensures.list ∙ ap (sharps_of c.args.counts.now c.line-item.result.cube) c.as_slice.ensures.value) c.in-Ok.ensures.narrow c.in-Ok.ensures.suited

pub returns-in-Err-clause-wide : goal.returns-in-Err-clause-wide
returns-in-Err-clause-wide c stop =
    beyond_wide c.args.counts.now c.args.lines.now c.args.cube.now c.loop-line.line-index c.loop-line.cubes.items c.loop-line.cubes.items c.line-item.result c.loop-line-test.true c.line-item.is c.loop-line.invariant
    (rw c.as_slice.ensures.value at (c.in-Err.ensures.wide stop))
