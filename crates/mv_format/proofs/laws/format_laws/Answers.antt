-- The laws are lemmas.
use Rattle.mv_format.proofs.Lawful.{lawful}
use Rattle.mv_format.proofs.laws.format_laws.Goals as goal

pub returns : goal.returns
returns c = lawful
