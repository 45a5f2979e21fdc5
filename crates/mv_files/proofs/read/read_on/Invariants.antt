-- So much was read since the loop began, and no fault is told that didn't count.
use Rattle.mv_files.specs.FileReading.{BeganNone, Stay}
use Rattle.mv_files.proofs.FileReads.{HasCome}
use Rattle.mv_files.proofs.read.read_on.Given as goal

abbrev pub invariant-loop-turn : goal.invariant-loop-turn
invariant-loop-turn g l =
    record {
      come : HasCome (g.F.Files.state l.fn.files).held (g.F.Files.state l.files).held l.limit l._turn l.bytes.items;
      stay : Stay (g.F.Files.state l.fn.files) (g.F.Files.state l.files);
      starts : BeganNone (g.F.Files.state l.fn.files) (g.F.Files.state l.files);
    }
