-- The cube with a literal on a net behind its own is a cube.
use Rattle.std.proofs.Common.{◌≡◌, ◌∙◌, List, ◌∷◌, [], ◌++◌, sym, ap, subst, arith}
use Rattle.std.proofs.lemmas.List.{take_all}
use Rattle.mv_cover.specs.Literal.{Lit}
use Rattle.mv_cover.specs.Cubes.{IsCube}
use Rattle.mv_divide.proofs.Standing.{standing}
use Rattle.mv_divide.proofs.divided.with_one.Goals as goal

pub of-requires : goal.of-requires
of-requires c =
    let whole : c.loop-literal.lits.items ≡ c.args.cube.now = c.loop-literal.invariant ∙ (take_all c.loop-literal.literal-index c.lits-literal-items.result.now (omega arith) ∙ c.lits-literal-items.ensures.lits) in
    let l = c.in_ok-new.field-0 in
    subst (λ (q : List Lit). IsCube q) (sym (c.in_ok-push-2.ensures.ok ∙ ap (λ (q : List Lit). q ++ l ∷ []) whole))
    (standing c.args.n c.args.cube.now l c.lits-literal-items.ensures.formed c.requires c.in_ok-new.ensures.net (c.in_ok-new.ensures.set ∙ c.one.ensures))
