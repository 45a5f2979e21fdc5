use Rattle.std.proofs.Common.{◌∙◌, ℕ, List, subst}
use Rattle.std.proofs.lemmas.List.{take_all}
use Rattle.mv_cover.specs.Literal.{Lit}
use Rattle.mv_gains.specs.Cubes.{IsSharedAt}
use Rattle.mv_gains.specs.Grown.{Grew, IsOneOf}
use Rattle.mv_gains.specs.Holders.{places_in}
use Rattle.mv_gains.proofs.Growing.{grew_more}
use Rattle.mv_gains.proofs.cubes.add_cube.Goals as goal

pub loop-literal-preserved : goal.loop-literal-preserved
loop-literal-preserved c =
    let Shared = IsSharedAt c.args.cubes.now c.args.cube.now in
    grew_more (λ (m : Lit). IsOneOf Shared (places_in c.args.holders.now m)) c.lits-literal-items.result.now c.loop-literal.literal-index c.literal-item.result c.args.found.now.keys c.loop-literal.found.keys c.add_with.new.found.keys c.loop-literal-test.true c.literal-item.is c.loop-literal.invariant
    (subst (λ (ps : List ℕ). Grew (IsOneOf Shared ps) c.loop-literal.found.keys c.add_with.new.found.keys) c.places_of-places.ensures c.in_ok-add_with.ensures)

pub returns : goal.returns
returns c =
    let items = c.lits-literal-items.result.now in
    let Shared = IsSharedAt c.args.cubes.now c.args.cube.now in
    subst (λ (ls : List Lit). Grew (IsOneOf (λ (m : Lit). IsOneOf Shared (places_in c.args.holders.now m)) ls) c.args.found.now.keys c.loop-literal.found.keys)
    (take_all c.loop-literal.literal-index items c.loop-literal-test.false ∙ c.lits-literal-items.ensures.lits) c.loop-literal.invariant
