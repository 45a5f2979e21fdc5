use Rattle.std.proofs.Common.{take}
use Rattle.mv_divide.specs.Tables.{AreQuotients}
use Rattle.mv_divide.proofs.quotient.quotients.Given as goal

abbrev pub invariant-loop-part : goal.invariant-loop-part
invariant-loop-part l = AreQuotients (take l.part-index l.parts) l.divisor l.quotients.items
