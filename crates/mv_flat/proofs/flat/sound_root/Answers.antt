-- The model that is looked at is the root.
use Rattle.std.proofs.Common.{◌≡◌, List, length, get_or, sym, ◌∙◌, ap, arith}
use Rattle.std.proofs.lemmas.Bool.Decides.{nat_tests}
use Rattle.std.proofs.lemmas.List.{get_or_default}
use Rattle.mv_design.specs.declared.design.FileModel.{FileModel}
use Rattle.mv_design.specs.Nets.{root_of, no_model}
use Rattle.mv_unfold.proofs.Wholes.{no_elements}
use Rattle.mv_flat.proofs.Alone.{sound_alone}
use Rattle.mv_flat.proofs.flat.sound_root.Goals as goal

pub returns-then-is_empty : goal.returns-then-is_empty
unfolding root_of
returns-then-is_empty c =
    let d = c.args.design.now in
    let m = c.index-as_slice-design.result in
    let t = c.if-is_empty.true in
    let e = c.is_empty.ensures in
    let none : length c.args.opened.now ≡ 0 = grind (arith, nat_tests) in
    sound_alone d c.args.opened.now m c.sound.result (sym (no_elements c.args.opened.now none))
    (c.index-as_slice-design.is ∙ (ap (λ (ms : List FileModel). get_or ms d.root m) c.as_slice.ensures ∙ get_or_default d.models d.root m no_model c.requires))
    c.sound.ensures
