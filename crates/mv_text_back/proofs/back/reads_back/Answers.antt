use Rattle.mv_text_back.proofs.Whole.{reads-back}
use Rattle.mv_text_back.proofs.back.reads_back.Goals as goal

pub returns : goal.returns
returns c = reads-back c.args.net.now c.well_formed-2.ensures
