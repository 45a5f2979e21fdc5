-- The page begins with nothing, and what is held at the end is handed on.
use Rattle.mv_page.proofs.Paging.{ends, ends_cut}
use Rattle.mv_entry.proofs.note_text.put_note.Goals as goal

pub returns-in-Err : goal.returns-in-Err
returns-in-Err g c =
    let begun = rw c.of-page.ensures at c.in-Err.ensures in
    ends_cut _ _ _ _ _ _ begun

pub returns : goal.returns
returns g c =
    let begun = rw c.of-page.ensures at c.in-Ok.ensures in
    ends _ _ _ _ _ _ _ begun c.hand_on.ensures.appends
