-- The page begins with the first word, and what is held at the end is handed on.
use Rattle.std.proofs.Common.{sym}
use Rattle.mv_base.proofs.Gains.{appends, same}
use Rattle.mv_page.proofs.Paging.{ends, ends_cut}
use Rattle.mv_blif_write.proofs.Whole.{opened-text}
use Rattle.mv_blif_write.proofs.network.write_blif.Goals as goal

pub returns-in-Err : goal.returns-in-Err
returns-in-Err g c =
    let begun = rw c.of-page.ensures at c.in-Err.ensures in
    same appends (sym (opened-text c.args.net.now c.args.latches.now)) (ends_cut _ _ _ _ _ _ begun)

pub returns : goal.returns
returns g c =
    let begun = rw c.of-page.ensures at c.in-Ok.ensures in
    same appends (sym (opened-text c.args.net.now c.args.latches.now)) (ends _ _ _ _ _ _ _ begun c.hand_on.ensures.appends)
