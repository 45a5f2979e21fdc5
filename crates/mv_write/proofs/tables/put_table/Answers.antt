use Rattle.std.proofs.Common.{◌++◌, refl}
use Rattle.std.specs.List.{flat_map}
use Rattle.mv_base.proofs.Gains.{start, next, stop, last}
use Rattle.mv_page.proofs.Adding.{adds}
use Rattle.mv_lex.specs.Text.{line_text}
use Rattle.mv_cover.specs.declared.line.Line.{Line}
use Rattle.mv_net.specs.Nets.{slot, spelled_in}
use Rattle.mv_text.specs.Text.{line_words, default_words, numbers}
use Rattle.mv_write.proofs.Held.{fanins-held, fanins-are}
use Rattle.mv_write.proofs.Literals.{cover-is}
use Rattle.mv_write.proofs.Parts.{table-text}
use Rattle.mv_write.proofs.tables.put_table.Goals as goal

pub put_head-requires : goal.put_head-requires
put_head-requires g c =
    fanins-held c.args.net.now c.args.n.0 c.fanins-fanins.result.now c.well_formed-2.ensures c.fanins-fanins.ensures

pub put_default-requires-clause-default : goal.put_default-requires-clause-default
put_default-requires-clause-default g c = record {
  set = (cover-is c.args.net.now c.args.n.0 c.args.cover.now c.well_formed-2.ensures c.requires.table).default;
}

pub put_rows-requires-clause-all_held : goal.put_rows-requires-clause-all_held
put_rows-requires-clause-all_held g c =
    fanins-held c.args.net.now c.args.n.0 c.fanins-fanins.result.now c.well_formed-2.ensures c.fanins-fanins.ensures

pub put_rows-requires-clause-lines : goal.put_rows-requires-clause-lines
put_rows-requires-clause-lines g c =
    rw c.as_slice.ensures (cover-is c.args.net.now c.args.n.0 c.args.cover.now c.well_formed-2.ensures c.requires.table).lines

pub returns-in_err-put_head : goal.returns-in_err-put_head
returns-in_err-put_head g c =
    let nets = c.args.net.now.nets in
    let cover = c.args.cover.now in
    let fanins = c.fanins-fanins.result.now in
    let values = spelled_in (slot nets c.args.n.0) in
    let ns = fanins-are c.args.net.now c.args.n.0 fanins cover c.well_formed-2.ensures c.requires.table c.fanins-fanins.ensures in
    let rows = flat_map (λ (l : Line). line_text (line_words nets values (numbers fanins) l)) cover.lines in
    let text = table-text nets (slot nets c.args.n.0) cover fanins c.head_word.result.now c.told_name.result.now cover.lines c.requires.table ns c.head_word.ensures c.told_name.ensures refl in
    stop adds (flat_map line_text (default_words values cover.default) ++ rows) _ _ (start adds _ _) text c.in_err-put_head.ensures c.from_residual.ensures.1

pub returns-in_err-put_default : goal.returns-in_err-put_default
returns-in_err-put_default g c =
    let nets = c.args.net.now.nets in
    let cover = c.args.cover.now in
    let fanins = c.fanins-fanins.result.now in
    let values = spelled_in (slot nets c.args.n.0) in
    let ns = fanins-are c.args.net.now c.args.n.0 fanins cover c.well_formed-2.ensures c.requires.table c.fanins-fanins.ensures in
    let rows = flat_map (λ (l : Line). line_text (line_words nets values (numbers fanins) l)) cover.lines in
    let text = table-text nets (slot nets c.args.n.0) cover fanins c.head_word.result.now c.told_name.result.now cover.lines c.requires.table ns c.head_word.ensures c.told_name.ensures refl in
    stop adds rows _ _ (next adds (start adds _ _) text c.in_ok-put_head.ensures) refl c.in_err-put_default.ensures c.from_residual-in_err-put_default.ensures.1

pub returns : goal.returns
returns g c =
    let nets = c.args.net.now.nets in
    let cover = c.args.cover.now in
    let fanins = c.fanins-fanins.result.now in
    let ns = fanins-are c.args.net.now c.args.n.0 fanins cover c.well_formed-2.ensures c.requires.table c.fanins-fanins.ensures in
    let text = table-text nets (slot nets c.args.n.0) cover fanins c.head_word.result.now c.told_name.result.now c.as_slice.result.now c.requires.table ns c.head_word.ensures c.told_name.ensures c.as_slice.ensures in
    let at = next adds (start adds _ _) text c.in_ok-put_head.ensures in
    last adds (next adds at refl c.in_ok-put_default.ensures) c.put_rows.ensures
