use Rattle.std.proofs.Common.{length, refl, arith}
use Rattle.std.proofs.lemmas.Option.{slice_get_read}
use Rattle.mv_factors.proofs.Sighting.{seen_row}
use Rattle.mv_factors.proofs.seen.mark_row.Goals as goal

pub returns-clause-seen : goal.returns-clause-seen
returns-clause-seen c =
    let rows = c.args.rows.now.items in
    let row = c.index_mut.result.now in
    seen_row c.args.factors.now c.args.place rows row c.mark_into.new.row (omega arith)
    (slice_get_read rows (length rows) c.args.place row refl (omega arith) c.index_mut.ensures.value)
    c.mark_into.ensures.room c.mark_into.ensures.tested
