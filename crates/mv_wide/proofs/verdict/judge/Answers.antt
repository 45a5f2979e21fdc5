-- The cover reads fanins alone.
use Rattle.mv_wide.proofs.Judged.{told_apart}
use Rattle.mv_wide.proofs.verdict.judge.Goals as goal

pub is_outside-requires-clause-apart : goal.is_outside-requires-clause-apart
is_outside-requires-clause-apart c =
    told_apart c.args.frame.now c.args.new.now c.requires.framed c.as_slice.result.now c.as_slice.ensures.value c.reads_among.result c.reads_among.ensures
    c.if-not-reads_among.false

pub is_lost-requires-clause-apart : goal.is_lost-requires-clause-apart
is_lost-requires-clause-apart c =
    told_apart c.args.frame.now c.args.new.now c.requires.framed c.as_slice.result.now c.as_slice.ensures.value c.reads_among.result c.reads_among.ensures
    c.if-not-reads_among.false
