-- The command stands in the model round the instance.
use Rattle.std.proofs.Common.{◌<◌, length, sym, ◌∙◌, ap, subst, arith}
use Rattle.mv_design.specs.declared.design.FileModel.{FileModel}
use Rattle.mv_design.specs.Nets.{no_model}
use Rattle.mv_unfold.specs.Laid.{opened_at}
use Rattle.mv_unfold.specs.Placed.{no_instance, model_at}
use Rattle.mv_unfold.proofs.Laid.{instance_placed, of_place, read_as}
use Rattle.mv_unfold.proofs.layout.Layout.instance.Goals as goal

pub model-round-requires-clause-number : goal.model-round-requires-clause-number
model-round-requires-clause-number c =
    let p = instance_placed c.args.self.now c.args.number c.requires.laid c.requires.some c.requires.number in
    let low = p.round in
    omega arith

pub bounds-as_slice-opened : goal.bounds-as_slice-opened
bounds-as_slice-opened c =
    let l = c.args.self.now in
    let r = c.model-round.result in
    let p = of_place l c.args.number r c.requires.laid c.requires.some c.requires.number (record { below = c.model-round.ensures.below; is = c.model-round.ensures.is }) in
    let model = read_as c.as_slice.result.now l.design.now.models r c.index-as_slice-round.result no_model c.as_slice.ensures c.model-round.ensures.below c.index-as_slice-round.is in
    subst (λ ps. (opened_at l c.args.number).instance < length ps) (sym (c.as_slice-2.ensures ∙ ap (λ (m : FileModel). m.instances) (sym c.index-as_slice-round.is ∙ model))) p.listed

pub returns : goal.returns
returns c =
    let l = c.args.self.now in
    let n = c.args.number in
    let r = c.model-round.result in
    let p = of_place l n r c.requires.laid c.requires.some c.requires.number (record { below = c.model-round.ensures.below; is = c.model-round.ensures.is }) in
    let model = read_as c.as_slice.result.now l.design.now.models r c.index-as_slice-round.result no_model c.as_slice.ensures c.model-round.ensures.below c.index-as_slice-round.is in
    let instances = c.as_slice-2.ensures ∙ ap (λ (m : FileModel). m.instances) (sym c.index-as_slice-round.is ∙ model) in
    read_as c.as_slice-2.result.now (model_at l.design.now r).instances (opened_at l n).instance c.index-as_slice-opened.result no_instance instances p.listed c.index-as_slice-opened.is
    ∙ p.command
