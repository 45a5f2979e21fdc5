use Rattle.mv_rows.specs.Flat.{only_entry}
use Rattle.mv_rows.specs.Lines.{EntryLines}
use Rattle.mv_rows.proofs.Alike.{only_here}
use Rattle.mv_rows.proofs.named.one_row.Goals as goal

pub returns : goal.returns
returns c =
    only_here (EntryLines c.args.frame.now.columns c.args.row.now.ins (only_entry c.args.row.now.outs)) c.new-lines.result.items c.put_row.new.lines.items c.new-lines.ensures.items
    (rw (← c.as_slice.ensures, ← c.only.ensures) c.in_ok-put_row.ensures.lines)
