use Rattle.std.proofs.Common.{refl, sym}
use Rattle.mv_base.proofs.Gains.{same}
use Rattle.mv_page.proofs.Adding.{adds}
use Rattle.mv_net.specs.Nets.{slot}
use Rattle.mv_write.proofs.Parts.{unheld-text}
use Rattle.mv_blif_text.specs.BlifText.{net_words}
use Rattle.mv_blif_write.proofs.TableText.{reset-text, no_table-text, table-text}
use Rattle.mv_blif_write.proofs.tables.put_net.Goals as goal

pub returns-then-not-holds : goal.returns-then-not-holds
returns-then-not-holds g c =
    let nets = c.args.net.now.nets in
    same adds (sym (unheld-text (net_words nets) (slot nets c.args.n.0) refl (sym c.if-not-holds.ensures))) (adds.nothing _)

pub returns-then-is_reset_net : goal.returns-then-is_reset_net
returns-then-is_reset_net g c =
    let nets = c.args.net.now.nets in
    same adds (sym (reset-text nets (slot nets c.args.n.0) (sym c.if-is_reset_net.ensures))) (adds.nothing _)

pub returns-in-None : goal.returns-in-None
returns-in-None g c =
    let nets = c.args.net.now.nets in
    same adds (sym (no_table-text nets (slot nets c.args.n.0) (sym c.in-None.ensures))) (adds.nothing _)

pub returns-in-Some : goal.returns-in-Some
returns-in-Some g c =
    let nets = c.args.net.now.nets in
    same adds (sym (table-text nets (slot nets c.args.n.0) c.in-Some.cover.now (sym c.if-is_reset_net.ensures) (sym c.in-Some.ensures))) c.put_table.ensures
