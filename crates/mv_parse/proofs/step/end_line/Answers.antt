use Rattle.std.proofs.Common.{inr}
use Rattle.mv_parse.proofs.Values.{extra-first}
use Rattle.mv_parse.proofs.step.end_line.Goals as goal

pub returns-then-not-is_empty-clause-fault : goal.returns-then-not-is_empty-clause-fault
returns-then-not-is_empty-clause-fault c =
    inr (rw (← c.behind_first.ensures, ← c.first_word.ensures, c.in_ok-new.ensures)
    (extra-first c.args.line.now.number c.first_word.result.now c.behind_first.result.now c.args.model.decls c.args.lines c.is_empty.result c.is_empty.ensures c.if-not-is_empty.true))
