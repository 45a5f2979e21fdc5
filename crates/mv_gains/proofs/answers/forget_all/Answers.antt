use Rattle.std.proofs.Common.{List, [], ◌∷◌, take, sym, subst}
use Rattle.std.proofs.lemmas.List.{take_all}
use Rattle.mv_cover.specs.Literal.{Lit}
use Rattle.mv_gains.specs.Answers.{Forgets}
use Rattle.mv_gains.proofs.Answered.{forgets_none, forgets_push}
use Rattle.mv_gains.proofs.Noting.{take_more}
use Rattle.mv_gains.proofs.answers.forget_all.Goals as goal

pub loop-cube-init : goal.loop-cube-init
loop-cube-init c = forgets_none c.args.answers.now

pub loop-cube-preserved : goal.loop-cube-preserved
loop-cube-preserved c =
    let cubes = c.args.cubes.now in
    let i = c.loop-cube.cube-index in
    let cube = c.cube-item.result in
    let one = subst (λ (ls : List Lit). Forgets (ls ∷ []) c.loop-cube.answers c.forget_each.new.answers) c.lits.ensures.lits c.in_ok-forget_each.ensures in
    subst (λ (cs : List (List Lit)). Forgets cs c.args.answers.now c.forget_each.new.answers) (sym (take_more cubes i cube c.loop-cube-test.true c.cube-item.is))
    (forgets_push (take i cubes) cube c.args.answers.now c.loop-cube.answers c.forget_each.new.answers c.loop-cube.invariant one)

pub returns : goal.returns
returns c = subst (λ (cs : List (List Lit)). Forgets cs c.args.answers.now c.loop-cube.answers) (take_all c.loop-cube.cube-index c.args.cubes.now c.loop-cube-test.false) c.loop-cube.invariant
