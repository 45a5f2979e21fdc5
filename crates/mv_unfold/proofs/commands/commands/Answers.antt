-- Model by model.
use Rattle.std.proofs.Common.{[], get_or, sym, ◌∙◌, ap, subst}
use Rattle.std.proofs.lemmas.List.{get_or_read}
use Rattle.mv_design.specs.declared.design.FileModel.{FileModel}
use Rattle.mv_design.specs.Nets.{no_model}
use Rattle.mv_unfold.specs.Commands.{AreCommandsOf}
use Rattle.mv_unfold.proofs.Rows.{each_pushed, long_pushed}
use Rattle.mv_unfold.proofs.commands.commands.Goals as goal

pub loop-model-preserved : goal.loop-model-preserved
loop-model-preserved c =
    let ms = c.args.models.now in
    let all = c.loop-model.all in
    let row = c.in_ok-commands_of.field-0 in
    let read = get_or_read ms c.loop-model.model-index c.model-item.result c.loop-model-test.true c.model-item.is no_model in
    record {
      long = long_pushed all row c.push.new.self c.loop-model.model-index c.in_ok-push.ensures.ok c.loop-model.invariant.long;
      each =
          each_pushed (λ k x. AreCommandsOf ms (get_or ms k no_model).instances x) all row [] c.push.new.self c.in_ok-push.ensures.ok c.loop-model.invariant.each
          (subst (λ ps. AreCommandsOf ms ps row)
          (c.as_slice.ensures ∙ ap (λ (m : FileModel). m.instances) (read ∙ ap (λ i. get_or ms i no_model) (sym c.loop-model.invariant.long)))
          c.in_ok-commands_of.ensures);
    }
