-- The numbers of a model's tables follow one another from that of its first.
use Rattle.std.proofs.Common.{◌≡◌, ◌∙◌, ◌++◌, length, get_or, ap, arith}
use Rattle.std.specs.List.{range_with_len}
use Rattle.std.proofs.lemmas.List.{get_or_default}
use Rattle.mv_design.specs.declared.design.FileModel.{FileModel}
use Rattle.mv_design.specs.Nets.{no_model}
use Rattle.mv_flat.specs.Shared.{first_at}
use Rattle.mv_flat.proofs.Listing.{counted_more}
use Rattle.mv_flat.proofs.Origins.{first_is, length-firsts}
use Rattle.mv_flat.proofs.shared.add_origins.Goals as goal

pub bounds-firsts-model : goal.bounds-firsts-model
bounds-firsts-model c =
    let e = ap length c.requires.firsts in
    let l = length-firsts 0 c.args.models.now in
    let m = c.requires.model in
    omega (arith, e, l, m)

pub loop-place-preserved : goal.loop-place-preserved
loop-place-preserved c =
    counted_more c.args.origins.now.items c.push.new.self.items c.loop-place.origins.items (get_or c.args.firsts.now c.args.model 0) c.loop-place.place c.in_ok-sum.field-0
    c.loop-place.invariant c.in_ok-sum.ensures c.in_ok-push.ensures.items

pub returns : goal.returns
returns c =
    let models = c.args.models.now in
    let model = c.args.model in
    let at = c.index-models-model.result in
    let is : get_or c.args.firsts.now model 0 ≡ first_at 0 models model = ap (λ ns. get_or ns model 0) c.requires.firsts ∙ first_is 0 models model 0 c.requires.model in
    let here : at ≡ get_or models model no_model = c.index-models-model.is ∙ get_or_default models model at no_model c.requires.model in
    let e = c.len-place-end.ensures in
    let a = c.loop-place-test.false in
    let b = c.loop-place.auto.place-end in
    let own : length at.tables ≡ length (get_or models model at).tables = ap (λ (m : FileModel). length m.tables) c.index-models-model.is in
    let all : c.loop-place.place ≡ length at.tables = omega (arith, e, a, b, own) in
    let many : c.loop-place.place ≡ length (get_or models model no_model).tables = all ∙ ap (λ (m : FileModel). length m.tables) here in
    c.loop-place.invariant ∙
    ap (λ ns. c.args.origins.now.items ++ ns) (ap (λ f. range_with_len f c.loop-place.place) is ∙ ap (range_with_len (first_at 0 models model)) many)
