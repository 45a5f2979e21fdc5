use Rattle.std.proofs.Common.{List, All, subst}
use Rattle.std.proofs.lemmas.List.{take_all}
use Rattle.mv_cover.specs.declared.line.Line.{Line}
use Rattle.mv_gains.specs.Tables.{HasAllOf}
use Rattle.mv_gains.proofs.Kept.{has_more}
use Rattle.mv_gains.proofs.tables.literals_of.Goals as goal

pub loop-line-preserved : goal.loop-line-preserved
loop-line-preserved c =
    has_more c.args.lines.now c.loop-line.line-index c.line-item.result c.lits.result.now c.loop-line.found.keys c.add_all.new.found.keys c.loop-line-test.true c.line-item.is c.lits.ensures.lits c.in_ok-add_all.ensures c.loop-line.invariant

pub returns : goal.returns
returns c = subst (λ (ls : List Line). All (HasAllOf c.loop-line.found.keys) ls) (take_all c.loop-line.line-index c.args.lines.now c.loop-line-test.false) c.loop-line.invariant
