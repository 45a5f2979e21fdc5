use Rattle.std.specs.List.{flat_map}
use Rattle.mv_base.proofs.Gains.{start, next, stop, last}
use Rattle.mv_page.proofs.Adding.{adds}
use Rattle.mv_lex.specs.Text.{line_text}
use Rattle.mv_net.specs.Nets.{slot, name_in}
use Rattle.mv_text.specs.Text.{numbers}
use Rattle.mv_write.proofs.Held.{fanins-held, fanins-are}
use Rattle.mv_blif_text.specs.BlifText.{choice_words}
use Rattle.mv_blif_write.proofs.TableText.{gate-text}
use Rattle.mv_blif_write.proofs.tables.put_table.Goals as goal

pub put_head-requires : goal.put_head-requires
put_head-requires g c =
    fanins-held c.args.net.now c.args.n.0 c.fanins-fanins.result.now c.well_formed-2.ensures c.fanins-fanins.ensures

pub put_choice-requires : goal.put_choice-requires
put_choice-requires g c = c.fanins-fanins.ensures.ascending

pub returns-in_err-put_head : goal.returns-in_err-put_head
returns-in_err-put_head g c =
    let nets = c.args.net.now.nets in
    let cover = c.args.cover.now in
    let fanins = c.fanins-fanins.result.now in
    let ns = fanins-are c.args.net.now c.args.n.0 fanins cover c.well_formed-2.ensures c.requires.table c.fanins-fanins.ensures in
    let text = gate-text nets (name_in (slot nets c.args.n.0)) c.name.result.now cover fanins ns c.name.ensures in
    stop adds (flat_map line_text (choice_words (numbers fanins) cover)) _ _ (start adds _ _) text c.in_err-put_head.ensures c.from_residual.ensures.1

pub returns : goal.returns
returns g c =
    let nets = c.args.net.now.nets in
    let cover = c.args.cover.now in
    let fanins = c.fanins-fanins.result.now in
    let ns = fanins-are c.args.net.now c.args.n.0 fanins cover c.well_formed-2.ensures c.requires.table c.fanins-fanins.ensures in
    let text = gate-text nets (name_in (slot nets c.args.n.0)) c.name.result.now cover fanins ns c.name.ensures in
    last adds (next adds (start adds _ _) text c.in_ok-put_head.ensures) c.put_choice.ensures
