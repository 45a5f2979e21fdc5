use Rattle.std.proofs.Common.{◌≡◌, true, arith}
use Rattle.mv_joint.specs.Plain.{is_joint_marked}
use Rattle.mv_joint.proofs.Marks.{stops_cover}
use Rattle.mv_joint.proofs.mark.mark_cover.Goals as goal

pub returns-in-Err-clause-stop : goal.returns-in-Err-clause-stop
returns-in-Err-clause-stop c =
    let cs = c.args.columns.now in
    let marked : is_joint_marked cs c.args.table.now ≡ true = grind arith in
    stops_cover cs c.args.table.now c.args.mark c.args.most c.in-Err.stop c.requires.columns c.requires.table marked c.in-Err.ensures.stop
