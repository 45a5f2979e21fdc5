-- A root without instances, and one with some.
use Rattle.std.proofs.Common.{◌≡◌, ◌<◌, length, ◌∙◌, arith}
use Rattle.std.proofs.lemmas.Bool.Decides.{nat_tests}
use Rattle.std.proofs.lemmas.Result.{IfOk-weaker}
use Rattle.mv_design.specs.Nets.{root_of}
use Rattle.mv_tree.specs.Places.{places}
use Rattle.mv_tree.specs.Unfolded.{joined, unfolded}
use Rattle.mv_unfold.proofs.Wholes.{whole_root, whole_joined, no_elements}
use Rattle.mv_unfold.proofs.model.built.Goals as goal

pub returns-then-is_empty-clause-model : goal.returns-then-is_empty-clause-model
returns-then-is_empty-clause-model c = λ h.
    let d = c.args.design in
    let t = c.if-is_empty.true in
    let e = c.is_empty.ensures in
    let none : length c.args.opened.now ≡ 0 = grind (arith, nat_tests) in
    c.into_root.ensures ∙ whole_root d (root_of d) h.tree (no_elements c.args.opened.now none ∙ h.is)

pub returns-clause-model : goal.returns-clause-model
returns-clause-model c = λ h.
    let d = c.args.design in
    let root = root_of d in
    let t = c.if-is_empty.false in
    let e = c.is_empty.ensures in
    let some : 0 < length c.args.opened.now = grind (arith, nat_tests) in
    IfOk-weaker c.joined_whole.result (λ w. w.model ≡ joined root (places root h.tree)) (λ w. w.model ≡ unfolded root h.tree)
    (λ w is. is ∙ whole_joined d root h.tree c.args.opened.now h.is some) (c.joined_whole.ensures.model h)
