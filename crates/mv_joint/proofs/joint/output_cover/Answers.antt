use Rattle.std.proofs.Common.{◌∙◌}
use Rattle.mv_joint.proofs.Tables.{choice_lawful, choice_with_mark, output_unmarked, column_is}
use Rattle.mv_joint.proofs.joint.output_cover.Goals as goal

pub cover_of-requires-clause-columns : goal.cover_of-requires-clause-columns
cover_of-requires-clause-columns c =
    rw (c.from_ref.ensures.value ∙ column_is c.args.all.now c.args.column.now c.requires.column) (choice_lawful c.args.all.now c.args.column.now.net c.requires.few)

pub cover_of-requires-clause-with_mark : goal.cover_of-requires-clause-with_mark
cover_of-requires-clause-with_mark c =
    rw (c.from_ref.ensures.value ∙ column_is c.args.all.now c.args.column.now c.requires.column)
    (choice_with_mark c.args.all.now c.args.column.now.net c.args.mark c.requires.few c.requires.apart)

pub cover_of-requires-clause-table : goal.cover_of-requires-clause-table
cover_of-requires-clause-table c =
    rw (c.from_ref.ensures.value ∙ column_is c.args.all.now c.args.column.now c.requires.column, c.in_ok-table.ensures, c.in_ok-output_rows.ensures)
    (output_unmarked c.args.all.now c.args.column.now.net c.args.output).table

pub cover_of-requires-clause-unmarked : goal.cover_of-requires-clause-unmarked
cover_of-requires-clause-unmarked c =
    rw (c.from_ref.ensures.value ∙ column_is c.args.all.now c.args.column.now c.requires.column, c.in_ok-table.ensures, c.in_ok-output_rows.ensures)
    (output_unmarked c.args.all.now c.args.column.now.net c.args.output).unmarked
