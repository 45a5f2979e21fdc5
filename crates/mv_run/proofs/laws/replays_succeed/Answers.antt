-- The law is a lemma, of whatever format is lawful.
use Rattle.mv_format.proofs.Lawful.{lawful}
use Rattle.mv_run.proofs.Again.{replays_end}
use Rattle.mv_run.specs.Doing.{format_asked, format_by}
use Rattle.mv_run.proofs.laws.replays_succeed.Goals as goal

pub returns : goal.returns
returns c = λ f. replays_end (format_by f.blif) (lawful (format_asked f.blif)) f.free f.net f.other
