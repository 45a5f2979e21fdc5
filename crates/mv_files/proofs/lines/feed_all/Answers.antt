-- A piece more was lexed, or nothing was left; no more turns are made than bytes can be accepted.
use Rattle.std.proofs.Common.{◌∙◌, [], refl, arith}
use Rattle.mv_files.proofs.FileReads.{stay_passed, passed_nothing}
use Rattle.mv_files.proofs.LexedReads.{come_first, come_more, fed_all, feed_stopped, come_never}
use Rattle.mv_files.proofs.lines.feed_all.Goals as goal

pub loop-turn-init : goal.loop-turn-init
loop-turn-init g c =
    record {
      come = come_first _ _ _ _ c.requires.start c.requires.limit c.requires.empty;
      stay = stay_passed _ _ [] (passed_nothing _) (omega arith);
      starts = refl;
    }

pub loop-turn-preserved : goal.loop-turn-preserved
loop-turn-preserved g c =
    let fed = rw c.in-Ok-true.field-0-test at c.in-Ok-true.ensures.fed in
    let come = come_more _ _ _ _ _ _ _ _ _ c.loop-turn.invariant.come fed in
    record {
      come = come;
      stay = stay_passed _ _ _ come.passed (omega (arith, c.loop-turn.invariant.stay.later, c.in-Ok-true.ensures.stay.later));
      starts = c.in-Ok-true.ensures.starts ∙ c.loop-turn.invariant.starts;
    }

pub returns-in-Ok-false-clause-fed : goal.returns-in-Ok-false-clause-fed
returns-in-Ok-false-clause-fed g c =
    let fed = rw c.in-Ok-false.field-0-test at c.in-Ok-false.ensures.fed in
    fed_all _ _ _ _ _ _ _ _ _ c.loop-turn.invariant.come fed

pub returns-in-Err-clause-stopped : goal.returns-in-Err-clause-stopped
returns-in-Err-clause-stopped g c =
    feed_stopped _ _ (g.F.Files.state c.feed_piece.new.files) _ _ _ _ _ _ c.loop-turn.invariant.come c.loop-turn.invariant.stay (omega arith) c.in-Err.ensures.stopped

pub unreachable-requires : goal.unreachable-requires
unreachable-requires g c = come_never _ _ _ _ _ _ c.loop-turn.invariant.come (omega arith)
