-- Value by value, until all are looked at.
use Rattle.std.proofs.Common.{arith}
use Rattle.mv_alike.proofs.Pairing.{found_begin, found_more, found_end}
use Rattle.mv_alike.proofs.pair.first_pair.Goals as goal

pub loop-at-init : goal.loop-at-init
loop-at-init c = record { within = omega arith; found = found_begin c.args.classes.now }

pub loop-at-preserved : goal.loop-at-preserved
loop-at-preserved c = record {
  within = omega (arith, c.loop-at-test.true);
  found = rw c.earlier-first.ensures (found_more c.args.classes.now c.loop-at.at c.loop-at.first c.loop-at-test.true c.requires.numbered c.loop-at.invariant.found);
}

pub returns : goal.returns
returns c = found_end c.args.classes.now c.loop-at.at c.loop-at.first c.loop-at.invariant.within c.loop-at-test.false c.loop-at.invariant.found
