-- A table that needs no mark may have any.
use Rattle.std.proofs.Common.{sym, ◌∙◌}
use Rattle.std.proofs.lemmas.Bool.{false≢true}
use Rattle.mv_joint.specs.Gather.{choice_of}
use Rattle.mv_joint.proofs.Tables.{split_unmarked}
use Rattle.mv_joint.proofs.Unmarked.{cover_unmarked}
use Rattle.mv_joint.proofs.joint.choice_cover.Goals as goal

pub flat_table_within-requires-clause-unread : goal.flat_table_within-requires-clause-unread
flat_table_within-requires-clause-unread c =
    rw (c.as_slice-columns.ensures, c.in_ok-table.ensures)
    (λ gets. absurd (false≢true (sym (split_unmarked c.args.mark c.args.found.now c.requires.found).unmarked ∙ gets)))

pub flat_table_within-requires-clause-table : goal.flat_table_within-requires-clause-table
flat_table_within-requires-clause-table c =
    rw (c.as_slice-columns.ensures, c.in_ok-table.ensures) (split_unmarked c.args.mark c.args.found.now c.requires.found).table

pub returns-clause-cover : goal.returns-clause-cover
returns-clause-cover c =
    let found = c.args.found.now in
    let is = c.requires.found in
    let un = split_unmarked c.args.mark found is in
    cover_unmarked found.columns (choice_of found) c.args.mark c.in-Ok.flat is.columns un.table un.unmarked
    (rw (c.as_slice-columns.ensures, c.in_ok-table.ensures) at c.in-Ok.ensures.lines)
