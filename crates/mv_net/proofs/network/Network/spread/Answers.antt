-- One place more: its net was found, and stands there still.
use Rattle.std.proofs.Common.{arith}
use Rattle.mv_net.proofs.Reaching.{spread_none, spread_more, spread_inside, spread_end}
use Rattle.mv_net.proofs.network.Network.spread.Goals as goal

pub loop-place-init : goal.loop-place-init
loop-place-init c = spread_none c.args.self.now.nets c.args.way c.args.start c.args.found.now.keys c.requires

pub step-requires-clause-inside : goal.step-requires-clause-inside
step-requires-clause-inside c =
    spread_inside c.args.self.now.nets c.args.way c.args.start c.loop-place.place c.args.found.now.keys c.loop-place.found.keys c.loop-place.place c.loop-place.invariant (omega (arith, c.len-place-end.ensures.len))

pub step-requires-clause-held : goal.step-requires-clause-held
step-requires-clause-held c = c.loop-place.invariant.held

pub loop-place-preserved : goal.loop-place-preserved
loop-place-preserved c =
    spread_more c.args.self.now.nets c.args.way c.args.start c.loop-place.place c.args.found.now.keys c.loop-place.found.keys c.step.new.found.keys c.loop-place.auto.place (omega (arith, c.len-place-end.ensures.len)) c.loop-place.invariant c.in_ok-step.ensures

pub returns : goal.returns
returns c =
    spread_end c.args.self.now.nets c.args.way c.args.start c.loop-place.place c.args.found.now.keys c.loop-place.found.keys (omega (arith, c.len-place-end.ensures.len)) c.loop-place.invariant
