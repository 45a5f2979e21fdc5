use Rattle.mv_parse_laws.proofs.FileLines.{lines-ascend}
use Rattle.mv_parse_laws.proofs.laws.lines_ascend.Goals as goal

pub returns : goal.returns
returns c = lines-ascend
