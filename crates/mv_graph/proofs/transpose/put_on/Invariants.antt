use Rattle.std.proofs.Common.{take}
use Rattle.mv_graph.specs.Transposing.{IsPutOn}
use Rattle.mv_graph.proofs.transpose.put_on.Given as goal

abbrev pub invariant-loop-named : goal.invariant-loop-named
invariant-loop-named l = IsPutOn l.initial.rows (take l.named-index l.nets) l.net l.rows
