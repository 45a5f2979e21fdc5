use Rattle.std.proofs.Common.{◌∙◌, ◌+◌, ◌++◌, ap}
use Rattle.mv_work.specs.Work.{net_name}
use Rattle.mv_work.proofs.NameSteps.{range-text}
use Rattle.mv_work.proofs.texts.add_range.Goals as goal

pub loop-i-preserved : goal.loop-i-preserved
loop-i-preserved c =
    range-text c.args.text.now.items c.args.first c.loop-i.i c.loop-i.text.items _ c.loop-i.invariant (c.in_ok-add_name.ensures ∙ ap (λ t. t ++ net_name (c.args.first + c.loop-i.i)) c.in_ok-extend_from_slice.ensures.items)
