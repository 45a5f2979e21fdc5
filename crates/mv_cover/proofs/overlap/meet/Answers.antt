-- The walk leaves out what no literal of the other cube meets.
use Rattle.std.proofs.Common.{◌≡◌, Bool, true, false, ◌||◌, refl, sym, arith}
use Rattle.mv_cover.specs.Overlap.{cubes_meet}
use Rattle.mv_cover.proofs.Walking.{walked_none}
use Rattle.mv_cover.proofs.Meeting.{walked_first, walked_second, walked_both, walked_all_first, walked_all_second}
use Rattle.mv_cover.proofs.overlap.meet.Goals as goal

or_right : (p q : Bool) → q ≡ true → (p || q) ≡ true
or_right true q h = refl
or_right false q h = h

pub walk-init : goal.walk-init
walk-init c = walked_none cubes_meet c.args.a.now c.args.b.now c.requires.first c.requires.second

pub walk-preserved-then-net : goal.walk-preserved-then-net
walk-preserved-then-net c =
    walked_first c.args.a.now c.args.b.now c.walk.i c.walk.j c.index-a-i.result c.index-b-j.result c.walk-test.true c.if-j-b.true c.index-a-i.is c.index-b-j.is (omega (arith, c.net.ensures.number, c.net-in-walk.ensures.number)) c.walk.invariant

pub walk-preserved-then-net-2 : goal.walk-preserved-then-net-2
walk-preserved-then-net-2 c =
    walked_second c.args.a.now c.args.b.now c.walk.i c.walk.j c.index-a-i.result c.index-b-j.result c.walk-test.true c.if-j-b.true c.index-a-i.is c.index-b-j.is (omega (arith, c.net.ensures.number, c.net-in-walk.ensures.number, c.net-else-net.ensures.number, c.net-else-net-2.ensures.number)) c.walk.invariant

pub walk-preserved : goal.walk-preserved
walk-preserved c =
    walked_both c.args.a.now c.args.b.now c.walk.i c.walk.j c.index-a-i.result c.index-b-j.result c.walk-test.true c.if-j-b.true c.index-a-i.is c.index-b-j.is (omega (arith, c.net.ensures.number, c.net-in-walk.ensures.number, c.net-else-net.ensures.number, c.net-else-net-2.ensures.number))
    (or_right _ _ (sym c.if-not-meets.ensures)) c.walk.invariant

pub returns-else-j-b : goal.returns-else-j-b
returns-else-j-b c = sym (walked_all_second c.args.a.now c.args.b.now c.walk.i c.walk.j c.if-j-b.false c.walk.invariant)

pub returns-after-walk : goal.returns-after-walk
returns-after-walk c = sym (walked_all_first c.args.a.now c.args.b.now c.walk.i c.walk.j c.walk-test.false c.walk.invariant)
