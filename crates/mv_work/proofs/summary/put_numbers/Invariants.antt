use Rattle.std.proofs.Common.{drop}
use Rattle.mv_base.specs.Outside.{Appends}
use Rattle.mv_base.proofs.Gains.{Going}
use Rattle.mv_work.specs.Summing.{numbers_text}
use Rattle.mv_work.proofs.summary.put_numbers.Given as goal

abbrev pub invariant-loop-number : goal.invariant-loop-number
invariant-loop-number g l =
    Going Appends (g.K.Sink.state l.fn.out) (g.K.Sink.state l.out) (numbers_text (drop l.number-index l.numbers)) (numbers_text l.numbers)
