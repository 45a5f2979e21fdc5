-- The truths say what the tables say.
use Rattle.std.proofs.Common.{◌∙◌, sym}
use Rattle.mv_flex.proofs.Looking.{truths_say}
use Rattle.mv_flex.specs.Truths.{truths_agree}
use Rattle.mv_flex.proofs.asked.Asked.others_agree.Goals as goal

pub returns : goal.returns
returns c =
    c.truths_agree.ensures
    ∙ (λ i. truths_agree c.args.net.now.nets (c.as_slice-truths.ensures i) (c.as_slice-nets.ensures i) c.args.values.now)
    ∙ truths_say c.args.net.now.nets c.args.plan.now.nets c.args.plan.now.others c.args.self.now.others c.args.values.now c.requires.asked.others.of
