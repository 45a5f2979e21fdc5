use Rattle.std.proofs.Common.{◌≡◌}
use Rattle.mv_body.specs.Bodies.{line_said, IsTidyLine}
use Rattle.mv_body.proofs.Numbers.{line_known_at}
use Rattle.mv_body.proofs.Lines.{taken_more, taken_twice, among_keys, new_key}
use Rattle.mv_body.proofs.line.tidy_lines.Goals as goal

pub tidy_line-requires-clause-known : goal.tidy_line-requires-clause-known
tidy_line-requires-clause-known c =
    line_known_at c.args.net.now.nets c.args.lines.now c.loop-line.line-index c.line-item.result c.requires.known c.loop-line-test.true c.line-item.is

pub returns-then-not-branch : goal.returns-then-not-branch
returns-then-not-branch c =
    let nets = c.args.net.now.nets in
    let values = c.args.values in
    let line = c.line-item.result in
    let tidy : IsTidyLine nets values line × (c.in-Some.tidy ≡ line_said nets line) = rw c.in-Some.is at c.in_ok-tidy.ensures in
    taken_twice nets values c.args.lines.now c.loop-line.line-index line c.loop-line.distinct.keys c.in-Some.tidy c.loop-line-test.true c.line-item.is c.loop-line.invariant tidy.1
    (among_keys _ _ c.in_ok-insert.ensures.added c.if-not-branch.true)

pub loop-line-preserved : goal.loop-line-preserved
loop-line-preserved c =
    let nets = c.args.net.now.nets in
    let values = c.args.values in
    let line = c.line-item.result in
    let tidy : IsTidyLine nets values line × (c.in-Some.tidy ≡ line_said nets line) = rw c.in-Some.is at c.in_ok-tidy.ensures in
    taken_more nets values c.args.lines.now c.loop-line.line-index line c.loop-line.distinct.keys _ c.in-Some.tidy c.loop-line-test.true c.line-item.is c.loop-line.invariant tidy.0 tidy.1
    (new_key _ _ c.in_ok-insert.ensures.added c.if-not-branch.false) c.in_ok-insert.ensures.keys
