-- What was lexed is the whole content, and a fault of what was lexed is one of the content.
use Rattle.std.proofs.Common.{arith}
use Rattle.std.proofs.lemmas.Grind.{common_steps}
use Rattle.mv_lex.proofs.After.{gained_all}
use Rattle.mv_files.proofs.LexedReads.{was_lexed, lines_cause, front_stopped}
use Rattle.mv_files.proofs.lines.read_lines.Goals as goal

pub returns-in-Err-feed_all-clause-stopped : goal.returns-in-Err-feed_all-clause-stopped
returns-in-Err-feed_all-clause-stopped g c =
    lines_cause (g.F.Files.state c.args.files.now) (g.F.Files.state c.start.new.self) (g.F.Files.state c.feed_all.new.files) _ _ _ c.in-Ok.ensures.begun c.in-Ok.ensures.cause.later c.in-Err-feed_all.ensures.stopped

pub returns-in-Ok-finish-clause-lexed : goal.returns-in-Ok-finish-clause-lexed
returns-in-Ok-finish-clause-lexed g c =
    let all = c.in-Ok-feed_all.ensures.fed in
    was_lexed _ _ _ _ _ _ _ _ c.in-Ok.ensures.begun all (gained_all _ _ _ _ all.bytes c.in-Ok-finish.ensures.lines all.stands all.lines_are) (c.in-Ok-finish.ensures.fault all.bytes all.stands)

pub returns-in-Err-feed_all-clause-in_time : goal.returns-in-Err-feed_all-clause-in_time
returns-in-Err-feed_all-clause-in_time g c =
    λ fault is. front_stopped (g.F.Files.state c.args.files.now) (g.F.Files.state c.start.new.self) (g.F.Files.state c.feed_all.new.files) _ _ c.in-Err-feed_all.stop fault c.in-Ok.ensures.begun c.in-Err-feed_all.ensures.stopped (grind (arith, common_steps))
