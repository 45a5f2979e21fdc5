use Rattle.std.proofs.Common.{sym}
use Rattle.mv_base.proofs.Gains.{same}
use Rattle.mv_page.proofs.Adding.{adds}
use Rattle.mv_entry.proofs.Texts.{spaced-one}
use Rattle.mv_entry.proofs.words.put_word.Goals as goal

pub returns : goal.returns
returns g c = same adds (sym (spaced-one c.args.word.now)) c.put_both.ensures
