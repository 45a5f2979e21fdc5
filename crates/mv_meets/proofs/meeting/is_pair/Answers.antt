use Rattle.mv_meets.proofs.Pairs.{pair_found}
use Rattle.mv_meets.proofs.meeting.is_pair.Goals as goal

pub returns : goal.returns
returns c =
    pair_found c.args.cubes.now c.args.one c.args.other c.index-cubes-one.result c.index-cubes-other.result c.in_ok-shared.shared c.args.d.now c.eq-same.result c.requires.one c.requires.other c.index-cubes-one.is c.index-cubes-other.is c.if-other-one.false c.in_ok-shared.ensures c.eq-same.ensures
