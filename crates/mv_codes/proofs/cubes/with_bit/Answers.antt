-- A literal behind those of a cube, on a net above theirs, makes a cube.
use Rattle.std.proofs.Common.{◌∙◌, ◌+◌, List, sym, subst}
use Rattle.mv_cover.specs.Literal.{Lit}
use Rattle.mv_cover.specs.Cubes.{IsCube}
use Rattle.mv_codes.specs.CodeCubes.{AreBelow}
use Rattle.mv_codes.proofs.Building.{built_bit, bit_pushed}
use Rattle.mv_codes.proofs.cubes.with_bit.Goals as goal

pub of-requires : goal.of-requires
of-requires c =
    subst (λ (q : List Lit). IsCube q)
    (sym (bit_pushed c.args.cube.now c.lits-l-items.result.now c.loop-l.lits.items c.push-2.new.self.items c.loop-l.l-index c.in_ok-asked.asked c.args.net c.one.result c.args.bit c.lits-l-items.ensures.lits c.loop-l-test.false c.loop-l.invariant c.in_ok-asked.ensures.net c.in_ok-asked.ensures.set c.one.ensures c.in_ok-push-2.ensures.ok))
    (built_bit c.args.cube.now c.args.net.0 c.args.bit c.lits-l-items.ensures.formed c.requires.below).cube

pub returns-clause-below : goal.returns-clause-below
returns-clause-below c =
    subst (λ (q : List Lit). AreBelow (c.args.net.0 + 1) q)
    (sym (c.of.ensures ∙ bit_pushed c.args.cube.now c.lits-l-items.result.now c.loop-l.lits.items c.push-2.new.self.items c.loop-l.l-index c.in_ok-asked.asked c.args.net c.one.result c.args.bit c.lits-l-items.ensures.lits c.loop-l-test.false c.loop-l.invariant c.in_ok-asked.ensures.net c.in_ok-asked.ensures.set c.one.ensures c.in_ok-push-2.ensures.ok))
    (built_bit c.args.cube.now c.args.net.0 c.args.bit c.lits-l-items.ensures.formed c.requires.below).below
