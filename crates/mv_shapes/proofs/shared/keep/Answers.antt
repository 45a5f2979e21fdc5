-- The covers that are put in are kept too.
use Rattle.std.proofs.Common.{ℕ, List, sym, subst}
use Rattle.std.specs.declared.vec.Vec.{Vec}
use Rattle.std.specs.declared.alloc.Global.{Global}
use Rattle.mv_rows.specs.declared.table.FlatTable.{FlatTable}
use Rattle.mv_shapes.specs.Kept.{AreKept, IsKept}
use Rattle.mv_shapes.proofs.Codes.{put}
use Rattle.mv_shapes.proofs.shared.keep.Goals as goal

pub returns-in_ok-insert : goal.returns-in_ok-insert
returns-in_ok-insert c =
    let P : List (Vec ℕ Global × FlatTable) → Type 0 = λ es. AreKept c.args.table.now es in
    subst P (sym c.in_ok-insert.ensures.entries)
    (put (IsKept c.args.table.now) c.args.flats.now.entries c.args.key c.args.flat c.requires.kept c.requires.made)
