-- None is left that stands before the line.
use Rattle.std.proofs.Common.{sym, ◌∙◌}
use Rattle.mv_design.specs.declared.table.FileTable.{FileTable}
use Rattle.mv_resets.proofs.ByLine.{none_before}
use Rattle.mv_resets.proofs.resets.move_before.Goals as goal

pub returns-clause-rest : goal.returns-clause-rest
returns-clause-rest c =
    sym (none_before (λ (t : FileTable). t.line) c.args.line c.loop-rest.rest.items (sym c.begins_before.ensures ∙ c.loop-rest-test.false))
    ∙ c.loop-rest.invariant.rest
