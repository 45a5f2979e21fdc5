-- Command by command.
use Rattle.std.proofs.Common.{get_or, sym, ◌∙◌, ap, subst}
use Rattle.std.proofs.lemmas.List.{get_or_read}
use Rattle.mv_design.specs.declared.design.Instance.{Instance}
use Rattle.mv_unfold.specs.Placed.{no_instance}
use Rattle.mv_unfold.specs.Commands.{IsCommand, no_command}
use Rattle.mv_unfold.proofs.Rows.{each_pushed, long_pushed}
use Rattle.mv_unfold.proofs.commands.commands_of.Goals as goal

pub loop-instance-preserved : goal.loop-instance-preserved
loop-instance-preserved c =
    let ms = c.args.models.now in
    let instances = c.args.instances.now in
    let row = c.loop-instance.row in
    let made = c.in_ok-made_by.field-0 in
    let read = get_or_read instances c.loop-instance.instance-index c.instance-item.result c.loop-instance-test.true c.instance-item.is no_instance in
    record {
      long = long_pushed row made c.push.new.self c.loop-instance.instance-index c.in_ok-push.ensures.ok c.loop-instance.invariant.long;
      each =
          each_pushed (λ j x. IsCommand ms (get_or instances j no_instance) x) row made no_command c.push.new.self c.in_ok-push.ensures.ok c.loop-instance.invariant.each
          (subst (λ (p : Instance). IsCommand ms p made) (read ∙ ap (λ i. get_or instances i no_instance) (sym c.loop-instance.invariant.long)) c.in_ok-made_by.ensures);
    }
