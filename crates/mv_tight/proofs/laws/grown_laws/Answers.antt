-- The laws are lemmas.
use Rattle.mv_tight.proofs.Some.{lines_fewer, reads_within}
use Rattle.mv_tight.proofs.laws.grown_laws.Goals as goal

pub returns-clause-reads : goal.returns-clause-reads
returns-clause-reads c = λ old new grown. reads_within old new grown

pub returns-clause-literals : goal.returns-clause-literals
returns-clause-literals c = λ old new grown. lines_fewer old.lines new.lines grown.lines
