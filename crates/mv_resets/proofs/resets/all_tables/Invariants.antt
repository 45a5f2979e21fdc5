use Rattle.std.proofs.Common.{◌≡◌, ◌++◌, List, map}
use Rattle.mv_design.specs.declared.table.FileTable.{FileTable}
use Rattle.mv_design.specs.ByLine.{by_line}
use Rattle.mv_resets.specs.Resets.{reset_table}
use Rattle.mv_resets.proofs.resets.all_tables.Given as goal

-- with any more reset tables behind those that came, the list is what it is to be
abbrev pub invariant-loop-reset : goal.invariant-loop-reset
invariant-loop-reset l = (more : List FileTable)
    → l.all.items ++ by_line (λ t. t.line) more l.rest.items ≡ by_line (λ t. t.line) (map reset_table l.yielded ++ more) l.fn.tables
