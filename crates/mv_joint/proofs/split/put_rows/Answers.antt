use Rattle.std.proofs.Common.{◌≡◌, [], false, sym, subst, arith}
use Rattle.mv_joint.specs.declared.split.PlainRow.{PlainRow}
use Rattle.mv_joint.specs.Split.{is_possible}
use Rattle.mv_joint.specs.Gather.{Gathers}
use Rattle.mv_joint.proofs.Gathering.{gathers_none}
use Rattle.mv_joint.proofs.Resting.{rest_none}
use Rattle.mv_joint.proofs.split.put_rows.Goals as goal

pub returns-then-not-branch-clause-rows : goal.returns-then-not-branch-clause-rows
returns-then-not-branch-clause-rows c =
    let cs = c.args.frame.now.columns in
    let gathered = c.args.gathered.now in
    let row : PlainRow = record { ins = c.args.ins.now; outs = [] } in
    let gone : is_possible cs row ≡ false = grind arith in
    subst (λ rows. Gathers rows gathered gathered)
    (sym (rest_none cs c.args.entries.now row c.requires.frame.columns c.requires.entries (record { sets = c.requires.sets }) gone)) (gathers_none gathered)
