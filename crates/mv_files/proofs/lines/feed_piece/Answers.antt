-- The bytes that came into the room are the piece that the lexer was fed.
use Rattle.std.proofs.Common.{arith}
use Rattle.std.proofs.lemmas.Grind.{common_steps}
use Rattle.mv_files.proofs.LexedReads.{fed_piece, stopped_piece}
use Rattle.mv_files.proofs.lines.feed_piece.Goals as goal

pub returns-in-Ok-feed-clause-fed : goal.returns-in-Ok-feed-clause-fed
returns-in-Ok-feed-clause-fed g c =
    let h = c.in-Ok-feed.ensures in
    fed_piece _ _ c.next.new.room _ c.in-Ok.count _ _ _ _ c.in-Ok.ensures.given c.in-Ok.ensures.bound (omega arith) h.ok h.lines h.limit (grind (arith, common_steps))

pub returns-in-Err-feed-clause-stopped : goal.returns-in-Err-feed-clause-stopped
returns-in-Err-feed-clause-stopped g c =
    stopped_piece _ _ c.next.new.room _ c.in-Ok.count _ _ _ c.in-Ok.ensures.given c.in-Ok.ensures.bound (omega arith) c.in-Err-feed.ensures.fault (grind (arith, common_steps))
