-- The lines that were left are put again up to the cap.
use Rattle.std.proofs.Common.{◌∙◌, ap}
use Rattle.mv_cover.specs.declared.cover.Cover.{Cover}
use Rattle.mv_composite.proofs.Sifting.{keeps_lowered}
use Rattle.mv_composite.proofs.lightest.Lightest.lower.Goals as goal

pub returns : goal.returns
returns c =
    keeps_lowered c.args.self.now.left c.put_light.new.left c.as_slice-2.result.now c.replace.new.dest c.args.self.now.cap c.in_ok-middle.middle c.lesser-cap.result
    (c.as_slice-2.ensures ∙ (ap (λ (x : Cover). x.lines) c.finish-left.ensures ∙ c.replace.ensures.value)) (c.replace.ensures.after ∙ c.new.ensures) c.lesser-cap.ensures c.in_ok-put_light.ensures
