-- Where the tables stay each still comes from where it came.
use Rattle.std.proofs.Common.{◌∙◌, List, sym, ap}
use Rattle.std.specs.List.{slice_get}
use Rattle.mv_design.specs.declared.table.FileTable.{FileTable}
use Rattle.mv_flat.proofs.shared.SharedTables.some_row_is_full.Goals as goal

pub returns-in-Some-clause-kept : goal.returns-in-Some-clause-kept
returns-in-Some-clause-kept c =
    λ t from single k f origin there. from single k f origin (ap (λ (ts : List FileTable). slice_get ts k) (sym c.full_at.ensures.same) ∙ there)
