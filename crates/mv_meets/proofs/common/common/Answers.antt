-- Some literals of a cube are a cube.
use Rattle.std.proofs.Common.{◌∙◌, List, ap}
use Rattle.std.proofs.lemmas.List.{take_all}
use Rattle.mv_cover.specs.Literal.{Lit}
use Rattle.mv_meets.specs.Meets.{common}
use Rattle.mv_meets.proofs.Pairs.{common_formed}
use Rattle.mv_meets.proofs.common.common.Goals as goal

pub of-requires : goal.of-requires
of-requires c =
    let items = c.lits-literal-items.result.now in
    common_formed c.args.a.now items c.loop-literal.shared.items c.args.b.now c.lits-literal-items.ensures.formed c.lits-literal-items.ensures.lits
    (c.loop-literal.invariant ∙ ap (λ (ls : List Lit). common ls c.args.b.now) (take_all c.loop-literal.literal-index items c.loop-literal-test.false))
