use Rattle.std.proofs.Common.{◌∷◌, ◌++◌, codes, refl}
use Rattle.mv_lex.specs.Text.{line_text}
use Rattle.mv_text.specs.Text.{names_of}
use Rattle.mv_base.proofs.Gains.{start, next, stop, last}
use Rattle.mv_page.proofs.Adding.{adds}
use Rattle.mv_write.proofs.Parts.{ports-text}
use Rattle.mv_write.proofs.Held.{inputs-held, outputs-held}
use Rattle.mv_write.proofs.network.put_ports.Goals as goal

pub put_list-requires : goal.put_list-requires
put_list-requires g c = inputs-held c.args.net.now c.inputs.result.now c.well_formed-2.ensures c.inputs.ensures

pub put_list-requires-2 : goal.put_list-requires-2
put_list-requires-2 g c = outputs-held c.args.net.now c.outputs.result.now c.well_formed-2.ensures c.outputs.ensures

pub returns-in_err-put_root : goal.returns-in_err-put_root
returns-in_err-put_root g c =
    let net = c.args.net.now in
    let outputs = line_text (codes ".outputs" ∷ names_of net.nets net.outputs) in
    let inputs = line_text (codes ".inputs" ∷ names_of net.nets net.inputs) in
    let text = ports-text net c.root.result.now net.inputs net.outputs c.root.ensures refl refl in
    stop adds (inputs ++ outputs) _ _ (start adds _ _) text c.in_err-put_root.ensures c.from_residual.ensures.1

pub returns-in_err-put_list : goal.returns-in_err-put_list
returns-in_err-put_list g c =
    let net = c.args.net.now in
    let outputs = line_text (codes ".outputs" ∷ names_of net.nets net.outputs) in
    let text = ports-text net c.root.result.now c.inputs.result.now net.outputs c.root.ensures c.inputs.ensures refl in
    stop adds outputs _ _ (next adds (start adds _ _) text c.in_ok-put_root.ensures) refl c.in_err-put_list.ensures c.from_residual-in_err-put_list.ensures.1

pub returns : goal.returns
returns g c =
    let text = ports-text c.args.net.now c.root.result.now c.inputs.result.now c.outputs.result.now c.root.ensures c.inputs.ensures c.outputs.ensures in
    last adds (next adds (next adds (start adds _ _) text c.in_ok-put_root.ensures) refl c.in_ok-put_list.ensures) c.put_list-2.ensures
