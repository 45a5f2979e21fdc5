-- Each law is a lemma, of whatever format is lawful.
use Rattle.mv_format.proofs.Lawful.{lawful}
use Rattle.mv_run.proofs.Again.{only_refused, always_refused}
use Rattle.mv_run.specs.Doing.{format_asked, format_by}
use Rattle.mv_run.proofs.laws.refused_exactly.Goals as goal

pub returns-clause-only : goal.returns-clause-only
returns-clause-only c = λ f. only_refused (format_by f.blif) (lawful (format_asked f.blif)) f.free f.net f.other

pub returns-clause-always : goal.returns-clause-always
returns-clause-always c = λ f. always_refused (format_by f.blif) (lawful (format_asked f.blif)) f.free f.net f.other
