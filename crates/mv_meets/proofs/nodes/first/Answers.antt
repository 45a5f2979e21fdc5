use Rattle.std.proofs.Common.{◌≡◌, ◌∙◌, [], ◌∷◌, ◌++◌, sym, subst, arith}
use Rattle.mv_cover.specs.Cubes.{IsCube}
use Rattle.mv_meets.proofs.Visiting.{first_formed, first_node}
use Rattle.mv_meets.proofs.nodes.first.Goals as goal

pub of-cube-requires : goal.of-cube-requires
of-cube-requires c =
    let is : c.push.new.self.items ≡ c.args.symbol.now ∷ [] = c.in_ok-push.ensures.ok ∙ (λ j. c.new-lits.ensures.items j ++ c.in_ok-copy.ensures j ∷ []) in
    subst IsCube (sym is) (first_formed c.args.cubes.now c.args.symbol.now c.requires.some c.requires.formed c.requires.have)

pub returns-clause-node : goal.returns-clause-node
returns-clause-node c =
    let is : c.of-cube.result ≡ c.args.symbol.now ∷ [] = c.of-cube.ensures ∙ (c.in_ok-push.ensures.ok ∙ (λ j. c.new-lits.ensures.items j ++ c.in_ok-copy.ensures j ∷ [])) in
    first_node c.args.cubes.now c.args.symbol.now _ c.requires.some c.requires.formed c.requires.have is (omega (arith, c.net.ensures.number))
    c.in_ok-places.ensures
