use Rattle.std.proofs.Common.{sym}
use Rattle.mv_base.proofs.Gains.{same}
use Rattle.mv_page.proofs.Adding.{adds}
use Rattle.mv_entry.proofs.Texts.{operands-none}
use Rattle.mv_entry.proofs.note_text.put_operands.Goals as goal

pub returns-in_default : goal.returns-in_default
returns-in_default g c =
    same adds (sym (operands-none c.args.command.now c.in_default.not-Collapse c.in_default.not-Simplify)) (adds.nothing _)
