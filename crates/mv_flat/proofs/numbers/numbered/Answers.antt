-- The tables are those of the model.
use Rattle.std.proofs.Common.{List, All, sym, subst}
use Rattle.mv_design.specs.declared.table.FileTable.{FileTable}
use Rattle.mv_flat.specs.Shared.{IsFrom}
use Rattle.mv_flat.proofs.numbers.numbered.Goals as goal

pub add_places-requires-clause-shared : goal.add_places-requires-clause-shared
add_places-requires-clause-shared c =
    let P : List FileTable → Type 0 = λ ts. All (IsFrom c.args.shared.now) ts in
    subst P (sym c.as_slice-tables.ensures) c.requires.shared
