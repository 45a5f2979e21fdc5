-- Model by model.
use Rattle.std.proofs.Common.{get_or, sym, ◌∙◌, ap, subst}
use Rattle.std.proofs.lemmas.List.{get_or_read}
use Rattle.mv_design.specs.declared.design.FileModel.{FileModel}
use Rattle.mv_design.specs.Nets.{no_model}
use Rattle.mv_design.specs.Values.{declared_of}
use Rattle.mv_unfold.specs.ByName.{FindsFirst}
use Rattle.mv_unfold.specs.Joined.{no_places}
use Rattle.mv_unfold.proofs.Rows.{each_pushed, long_pushed}
use Rattle.mv_unfold.proofs.decls.declared.Goals as goal

pub loop-model-preserved : goal.loop-model-preserved
loop-model-preserved c =
    let ms = c.args.models.now in
    let all = c.loop-model.all in
    let names = c.in_ok-of_decls.field-0 in
    let read = get_or_read ms c.loop-model.model-index c.model-item.result c.loop-model-test.true c.model-item.is no_model in
    record {
      long = long_pushed all names c.push.new.self c.loop-model.model-index c.in_ok-push.ensures.ok c.loop-model.invariant.long;
      each =
          each_pushed (λ k x. FindsFirst x (declared_of (get_or ms k no_model).decls)) all names no_places c.push.new.self c.in_ok-push.ensures.ok c.loop-model.invariant.each
          (subst (λ ds. FindsFirst names (declared_of ds))
          (c.as_slice.ensures ∙ ap (λ (m : FileModel). m.decls) (read ∙ ap (λ i. get_or ms i no_model) (sym c.loop-model.invariant.long)))
          c.in_ok-of_decls.ensures);
    }
