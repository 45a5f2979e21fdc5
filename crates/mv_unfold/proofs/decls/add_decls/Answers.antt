-- The own nets behind the path, with the values that the model declares.
use Rattle.std.proofs.Common.{◌≡◌, ◌<◌, ◌++◌, length, get_or, map, sym, ◌∙◌, ap, subst, arith}
use Rattle.std.specs.Prelude.{OnOk}
use Rattle.std.specs.List.{flat_map}
use Rattle.std.proofs.lemmas.List.{get_or_read}
use Rattle.mv_design.specs.declared.design.FileModel.{FileModel}
use Rattle.mv_design.specs.Nets.{no_model}
use Rattle.mv_design.specs.Values.{declared_of}
use Rattle.mv_unfold.specs.ByName.{FindsFirst}
use Rattle.mv_unfold.specs.Joined.{decl_under, no_places}
use Rattle.mv_unfold.specs.Laid.{places_of}
use Rattle.mv_unfold.specs.Locals.{cut}
use Rattle.mv_unfold.specs.Placed.{place_at}
use Rattle.mv_unfold.proofs.Laid.{read_as}
use Rattle.mv_unfold.proofs.Nets.{span_decls}
use Rattle.mv_unfold.proofs.decls.add_decls.Goals as goal

pub add_spans-requires-clause-places : goal.add_spans-requires-clause-places
add_spans-requires-clause-places c =
    let ms = c.args.layout.now.design.now.models in
    let k = c.model-model.result in
    let below : k < length ms = c.model-model.ensures.below in
    let long : length c.args.declared.now ≡ length ms = c.requires.declared.long in
    let lt : k < length c.args.declared.now = omega arith in
    let model = read_as c.as_slice.result.now ms k c.index-as_slice-model.result no_model c.as_slice.ensures below c.index-as_slice-model.is in
    subst (λ n. FindsFirst n (declared_of c.as_slice-2.result.now)) (sym (get_or_read c.args.declared.now k c.index-declared-model.result lt c.index-declared-model.is no_places))
    (subst (λ ds. FindsFirst (get_or c.args.declared.now k no_places) (declared_of ds)) (sym (c.as_slice-2.ensures ∙ ap (λ (m : FileModel). m.decls) (sym c.index-as_slice-model.is ∙ model))) (c.requires.declared.each k lt))

pub returns : goal.returns
returns c =
    let l = c.args.layout.now in
    let n = c.args.number in
    let p = place_at (places_of l) n in
    let k = c.model-model.result in
    let own = c.own-own.result.now in
    let model = read_as c.as_slice.result.now l.design.now.models k c.index-as_slice-model.result no_model c.as_slice.ensures c.model-model.ensures.below c.index-as_slice-model.is in
    let decls = c.as_slice-2.ensures ∙ ap (λ (m : FileModel). m.decls) (sym c.index-as_slice-model.is ∙ (model ∙ sym c.model-model.ensures.is)) in
    let path = c.as_slice-3.ensures.value ∙ (c.in_ok-add_path.ensures ∙ ap (λ w. w ++ p.path) c.new-path.ensures.items) in
    let e =
    ap (λ w. map (decl_under w c.as_slice-2.result.now) (flat_map (cut c.as_slice-nets.result.now) own)) path
    ∙ (ap (λ ds. map (decl_under p.path ds) (flat_map (cut c.as_slice-nets.result.now) own)) decls
    ∙ (ap (λ ns. map (decl_under p.path p.model.decls) (flat_map (cut ns) own)) (c.as_slice-nets.ensures ∙ c.nets.ensures)
    ∙ span_decls l n own c.requires.laid c.requires.number c.own-own.ensures)) in
    subst (λ ds. OnOk c.add_spans.result (c.add_spans.new.decls ≡ c.args.decls.now ++ ds)) e c.add_spans.ensures
