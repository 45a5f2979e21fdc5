use Rattle.std.proofs.Common.{refl, sym}
use Rattle.mv_base.proofs.Gains.{same}
use Rattle.mv_page.proofs.Adding.{adds}
use Rattle.mv_net.specs.Nets.{slot}
use Rattle.mv_text.specs.Text.{net_words}
use Rattle.mv_write.proofs.Parts.{no_table-text, unheld-text}
use Rattle.mv_write.proofs.tables.put_net.Goals as goal

pub returns-in-None : goal.returns-in-None
returns-in-None g c =
    let nets = c.args.net.now.nets in
    same adds (sym (no_table-text nets (slot nets c.args.n.0) (sym c.in-None.ensures))) (adds.nothing _)

pub returns-then-not-holds : goal.returns-then-not-holds
returns-then-not-holds g c =
    let nets = c.args.net.now.nets in
    same adds (sym (unheld-text (net_words nets) (slot nets c.args.n.0) refl (sym c.if-not-holds.ensures))) (adds.nothing _)
