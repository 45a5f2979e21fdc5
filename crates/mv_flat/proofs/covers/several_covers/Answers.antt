-- The columns, the mark and the choice net fit the table, and its covers are by the numbers that these have among the names.
use Rattle.std.proofs.Common.{length, arith}
use Rattle.std.proofs.lemmas.Bool.{ltb-true}
use Rattle.mv_joint.specs.Plain.{AreApart}
use Rattle.mv_flat.proofs.CoverNeeds.{AreOwn, own_numbers, numbers_apart, numbers_unread, own_made, own_stop}
use Rattle.mv_flat.proofs.Unmarked.{own_file}
use Rattle.mv_flat.proofs.covers.several_covers.Goals as goal
use Rattle.mv_flat.proofs.covers.several_covers.Goals.{Joined-branch-4}

-- the mark and the choice net have their numbers
own : (c : Joined-branch-4) → AreOwn c.args.names.now c.args.table.now c.number_or_past-mark.result c.number_or_past-choice.result
own c =
    own_numbers c.args.names.now c.args.table.now c.as_slice.result.now c.index-as_slice-0.result c.in_ok-mark_name.field-0 c.in_ok-choice_name.field-0
    c.number_or_past-mark.result c.number_or_past-choice.result c.requires.joint c.as_slice.ensures c.index-as_slice-0.is c.in_ok-mark_name.ensures
    c.in_ok-choice_name.ensures c.number_or_past-mark.ensures c.number_or_past-choice.ensures

-- and they are apart from the columns and from one another
apart : (c : Joined-branch-4) → AreApart c.args.columns.now c.number_or_past-mark.result c.number_or_past-choice.result
apart c =
    numbers_apart c.args.names.now c.args.table.now c.args.columns.now c.number_or_past-mark.result c.number_or_past-choice.result (own c) c.requires.columns
    c.requires.chosen

pub joint_table-requires-clause-columns : goal.joint_table-requires-clause-columns
joint_table-requires-clause-columns c = (apart c).inputs

pub joint_table-requires-clause-with_mark : goal.joint_table-requires-clause-with_mark
joint_table-requires-clause-with_mark c = (apart c).marked

pub joint_table-requires-clause-unread : goal.joint_table-requires-clause-unread
joint_table-requires-clause-unread c =
    numbers_unread c.args.names.now c.args.table.now c.args.columns.now c.number_or_past-mark.result c.number_or_past-choice.result (own c) c.requires.columns

pub joint_table-requires-clause-apart : goal.joint_table-requires-clause-apart
joint_table-requires-clause-apart c = (apart c).chosen

pub joint_table-requires-clause-table : goal.joint_table-requires-clause-table
joint_table-requires-clause-table c = own_file c.args.names.now c.args.table.now c.args.columns.now c.requires.columns

pub joint_table-requires-clause-some : goal.joint_table-requires-clause-some
joint_table-requires-clause-some c = let many = ltb-true 1 (length c.args.table.now.outputs) c.requires.joint in omega (arith, many)

pub returns-in-Ok-clause-made : goal.returns-in-Ok-clause-made
returns-in-Ok-clause-made c =
    own_made c.args.names.now c.args.table.now c.args.columns.now c.number_or_past-mark.result c.number_or_past-choice.result c.in-Ok.joint
    (own (goal.at.returns-in-Ok-clause-made c).Joined-branch-4) c.in-Ok.ensures.lines

pub returns-in-Err-clause-stop : goal.returns-in-Err-clause-stop
returns-in-Err-clause-stop c =
    own_stop c.args.names.now c.args.table.now c.args.columns.now c.number_or_past-mark.result c.number_or_past-choice.result c.args.most c.in-Err.stop
    (own (goal.at.returns-in-Err-clause-stop c).Joined-branch-4) c.in-Err.ensures.stop
