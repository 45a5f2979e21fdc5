use Rattle.std.proofs.Common.{sym}
use Rattle.mv_base.proofs.Gains.{same}
use Rattle.mv_page.proofs.Adding.{adds}
use Rattle.mv_entry.proofs.Texts.{numbers-none}
use Rattle.mv_entry.proofs.note_text.put_literals.Goals as goal

pub returns-in_default : goal.returns-in_default
returns-in_default g c =
    same adds (sym (numbers-none c.args.why c.in_default.not-Literals)) (adds.nothing _)
