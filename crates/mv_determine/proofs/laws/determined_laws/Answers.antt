-- The lemmas say it.
use Rattle.mv_determine.proofs.Formed.{table_over}
use Rattle.mv_determine.proofs.Plain.{determined_plain}
use Rattle.mv_determine.proofs.Taken.{determined_keeps, determined_within, table_reads}
use Rattle.mv_determine.proofs.laws.determined_laws.Goals as goal

pub returns-clause-plain : goal.returns-clause-plain
returns-clause-plain c = λ counts values table is. determined_plain counts table is.cubes

pub returns-clause-over : goal.returns-clause-over
returns-clause-over c = λ counts values table few is. table_over counts values table few is

pub returns-clause-within : goal.returns-clause-within
returns-clause-within c = λ counts values table few is at v point h. determined_within counts values table few is at point v h

pub returns-clause-keeps : goal.returns-clause-keeps
returns-clause-keeps c = λ counts values table few is at v point h. determined_keeps counts values table few is at point v h

pub returns-clause-reads : goal.returns-clause-reads
returns-clause-reads c = λ counts table n h. table_reads counts table n h
