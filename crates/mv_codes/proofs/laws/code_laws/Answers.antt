use Rattle.mv_codes.proofs.Values.{value_at-code}
use Rattle.mv_codes.proofs.laws.code_laws.Goals as goal

pub returns : goal.returns
returns c = value_at-code
