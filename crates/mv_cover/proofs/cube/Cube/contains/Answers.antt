-- The test tells whether each point of the other cube is one of this.
use Rattle.std.proofs.Common.{◌≡◌, ◌∙◌, sym}
use Rattle.mv_cover.specs.Containing.{lies_in}
use Rattle.mv_cover.proofs.Containing.{lies_inside, lies_outside}
use Rattle.mv_cover.proofs.cube.Cube.contains.Goals as goal

pub returns-clause-inside : goal.returns-clause-inside
returns-clause-inside c all at =
    let test : c.all_lie_in.result ≡ lies_in c.args.other.now c.args.self.now = c.all_lie_in.ensures ∙ λ i. lies_in (c.lits.ensures.lits i) (c.lits-2.ensures.lits i) in
    lies_inside at c.args.other.now c.args.self.now (sym test ∙ all)

pub returns-clause-outside : goal.returns-clause-outside
returns-clause-outside c some counts =
    let test : c.all_lie_in.result ≡ lies_in c.args.other.now c.args.self.now = c.all_lie_in.ensures ∙ λ i. lies_in (c.lits.ensures.lits i) (c.lits-2.ensures.lits i) in
    lies_outside counts c.args.other.now c.args.self.now c.lits.ensures.formed c.lits-2.ensures.formed (sym test ∙ some)
