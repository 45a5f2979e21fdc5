-- The walk passes what the other cube doesn't ask for, and stops at what this one lacks.
use Rattle.std.proofs.Common.{◌∙◌, sym, arith}
use Rattle.std.proofs.lemmas.Bool.{false≢true}
use Rattle.mv_cover.specs.Containing.{lies_in}
use Rattle.mv_cover.proofs.Walking.{walked_none}
use Rattle.mv_cover.proofs.Inclusion.{walked_first, walked_both, walked_missing, walked_apart, walked_end}
use Rattle.mv_cover.proofs.contain.all_lie_in.Goals as goal
use Rattle.mv_cover.proofs.contain.all_lie_in.Goals.{then-walk-test+else-j-b, else-walk-test}

pub walk-init : goal.walk-init
walk-init c = walked_none lies_in c.args.a.now c.args.b.now c.requires.first c.requires.second

pub walk-preserved-then-net : goal.walk-preserved-then-net
walk-preserved-then-net c =
    walked_first c.args.a.now c.args.b.now c.walk.i c.walk.j c.index-a-i.result c.index-b-j.result c.walk-test.true c.if-j-b.true c.index-a-i.is c.index-b-j.is (omega (arith, c.net.ensures.number, c.net-in-walk.ensures.number)) c.walk.invariant

pub returns-then-net-2 : goal.returns-then-net-2
returns-then-net-2 c =
    sym (walked_missing c.args.a.now c.args.b.now c.walk.i c.walk.j c.index-a-i.result c.index-b-j.result c.walk-test.true c.if-j-b.true c.index-a-i.is c.index-b-j.is (omega (arith, c.net.ensures.number, c.net-in-walk.ensures.number, c.net-else-net.ensures.number, c.net-else-net-2.ensures.number)) c.walk.invariant)

pub walk-preserved : goal.walk-preserved
walk-preserved c =
    walked_both c.args.a.now c.args.b.now c.walk.i c.walk.j c.index-a-i.result c.index-b-j.result c.walk-test.true c.if-j-b.true c.index-a-i.is c.index-b-j.is (omega (arith, c.net.ensures.number, c.net-in-walk.ensures.number, c.net-else-net.ensures.number, c.net-else-net-2.ensures.number))
    (c.within.ensures.0 c.if-within.true) c.walk.invariant

pub returns-else-within : goal.returns-else-within
returns-else-within c =
    sym (walked_apart c.args.a.now c.args.b.now c.walk.i c.walk.j c.index-a-i.result c.index-b-j.result c.walk-test.true c.if-j-b.true c.index-a-i.is c.index-b-j.is (omega (arith, c.net.ensures.number, c.net-in-walk.ensures.number, c.net-else-net.ensures.number, c.net-else-net-2.ensures.number))
    (λ w. false≢true (sym c.if-within.false ∙ c.within.ensures.1 w)) c.walk.invariant)

pub returns : goal.returns
returns c =
    walked_end c.args.a.now c.args.b.now c.walk.i c.walk.j
    (λ low. elim c.walk-test.branch [ then-walk-test+else-j-b w ↦ absurd (omega arith) | else-walk-test w ↦ omega arith ])
    c.walk.invariant
