-- Each law is a lemma, of whatever format is lawful.
use Rattle.mv_format.proofs.Lawful.{lawful}
use Rattle.mv_run.proofs.Again.{writes_same, is_accepted}
use Rattle.mv_run.specs.Doing.{format_asked, format_by, terms_of}
use Rattle.mv_run.proofs.laws.notes_check.Goals as goal

pub returns-clause-same : goal.returns-clause-same
returns-clause-same c = λ f. writes_same (format_by f.blif) (lawful (format_asked f.blif)) (terms_of f.free f.budget) f.net f.other

pub returns-clause-accepted : goal.returns-clause-accepted
returns-clause-accepted c =
    λ f certificate old new later later' status ends holds. is_accepted (format_by f.blif) (lawful (format_asked f.blif)) (terms_of f.free f.budget) f.net f.other certificate old new later later' ends holds status
