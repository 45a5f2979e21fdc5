use Rattle.std.proofs.Common.{◌∙◌, [], ◌∷◌, ◌++◌, length, map, codes, decimal, sym, ap}
use Rattle.std.specs.List.{flat_map}
use Rattle.mv_base.proofs.Gains.{start, next, stop, last, same}
use Rattle.mv_page.proofs.Adding.{adds}
use Rattle.mv_lex.specs.Text.{line_text}
use Rattle.mv_entry.specs.Entries.{set_word, into_words, code_word, body_lines, rule_lines}
use Rattle.mv_entry.proofs.Texts.{single-text, headed-text}
use Rattle.mv_entry.proofs.rule_text.put_rule_text.Goals as goal

pub returns-in-Remove : goal.returns-in-Remove
returns-in-Remove g c =
    let lines = ap rule_lines c.in-Remove.is ∙ ap (λ w. (codes "remove" ∷ w ∷ []) ∷ []) (sym c.bytes.ensures) in
    same adds (sym (single-text c.args.rule.now _ lines)) c.put_pair.ensures

pub returns-in-Wire : goal.returns-in-Wire
returns-in-Wire g c =
    let lines = ap rule_lines c.in-Wire.is ∙ ap (λ w. (codes "wire" ∷ w ∷ []) ∷ []) (sym c.bytes-in-Wire.ensures) in
    same adds (sym (single-text c.args.rule.now _ lines)) c.put_pair-in-Wire.ensures

pub returns-in-Collapse : goal.returns-in-Collapse
returns-in-Collapse g c =
    let lines = ap rule_lines c.in-Collapse.is ∙ ap (λ w. (codes "collapse" ∷ w ∷ []) ∷ []) (sym c.bytes-in-Collapse.ensures) in
    same adds (sym (single-text c.args.rule.now _ lines)) c.put_pair-in-Collapse.ensures

pub returns-in_err-put_pair-in-Add : goal.returns-in_err-put_pair-in-Add
returns-in_err-put_pair-in-Add g c =
    let body = c.in-Add.body in
    let lines = ap rule_lines c.in-Add.is ∙ ap (λ w. (codes "add" ∷ w ∷ []) ∷ body_lines body) (sym c.bytes-in-Add.ensures) in
    let text = headed-text c.args.rule.now _ body lines in
    stop adds (flat_map line_text (body_lines body)) _ _ (start adds _ _) text c.in_err-put_pair-in-Add.ensures c.from_residual.ensures.1

pub returns-in_ok-put_pair-in-Add : goal.returns-in_ok-put_pair-in-Add
returns-in_ok-put_pair-in-Add g c =
    let body = c.in-Add.body in
    let lines = ap rule_lines c.in-Add.is ∙ ap (λ w. (codes "add" ∷ w ∷ []) ∷ body_lines body) (sym c.bytes-in-Add.ensures) in
    let text = headed-text c.args.rule.now _ body lines in
    last adds (next adds (start adds _ _) text c.in_ok-put_pair-in-Add.ensures) c.put_body.ensures

pub returns-in_err-put_triple-in-Divide : goal.returns-in_err-put_triple-in-Divide
returns-in_err-put_triple-in-Divide g c =
    let body = c.in-Divide.body in
    let lines = ap rule_lines c.in-Divide.is ∙ (λ i. (codes "divide" ∷ sym c.bytes-in-Divide.ensures i ∷ sym c.bytes-in-Divide-2.ensures i ∷ []) ∷ body_lines body) in
    let text = headed-text c.args.rule.now _ body lines in
    stop adds (flat_map line_text (body_lines body)) _ _ (start adds _ _) text c.in_err-put_triple-in-Divide.ensures c.from_residual-in_err-put_triple-in-Divide.ensures.1

pub returns-in_ok-put_triple-in-Divide : goal.returns-in_ok-put_triple-in-Divide
returns-in_ok-put_triple-in-Divide g c =
    let body = c.in-Divide.body in
    let lines = ap rule_lines c.in-Divide.is ∙ (λ i. (codes "divide" ∷ sym c.bytes-in-Divide.ensures i ∷ sym c.bytes-in-Divide-2.ensures i ∷ []) ∷ body_lines body) in
    let text = headed-text c.args.rule.now _ body lines in
    last adds (next adds (start adds _ _) text c.in_ok-put_triple-in-Divide.ensures) c.put_body-in-Divide.ensures

pub returns-in_err-put_narrow-in-Narrow : goal.returns-in_err-put_narrow-in-Narrow
returns-in_err-put_narrow-in-Narrow g c =
    let body = c.in-Narrow.body in
    let numbers = decimal c.in-Narrow.d ∷ decimal c.in-Narrow.u ∷ [] in
    let lines = ap rule_lines c.in-Narrow.is ∙ ap (λ w. (codes "narrow" ∷ w ∷ numbers) ∷ body_lines body) (sym c.bytes-in-Narrow.ensures) in
    let text = headed-text c.args.rule.now _ body lines in
    stop adds (flat_map line_text (body_lines body)) _ _ (start adds _ _) text c.in_err-put_narrow-in-Narrow.ensures c.from_residual-in_err-put_narrow-in-Narrow.ensures.1

pub returns-in_ok-put_narrow-in-Narrow : goal.returns-in_ok-put_narrow-in-Narrow
returns-in_ok-put_narrow-in-Narrow g c =
    let body = c.in-Narrow.body in
    let numbers = decimal c.in-Narrow.d ∷ decimal c.in-Narrow.u ∷ [] in
    let lines = ap rule_lines c.in-Narrow.is ∙ ap (λ w. (codes "narrow" ∷ w ∷ numbers) ∷ body_lines body) (sym c.bytes-in-Narrow.ensures) in
    let text = headed-text c.args.rule.now _ body lines in
    last adds (next adds (start adds _ _) text c.in_ok-put_narrow-in-Narrow.ensures) c.put_body-in-Narrow.ensures

pub returns-in-Merge : goal.returns-in-Merge
returns-in-Merge g c =
    let words = decimal c.in-Merge.gone.0 ∷ into_words c.in-Merge.into in
    let lines = ap rule_lines c.in-Merge.is ∙ ap (λ w. (codes "merge" ∷ w ∷ words) ∷ []) (sym c.bytes-in-Merge.ensures) in
    same adds (sym (single-text c.args.rule.now _ lines)) c.put_merge.ensures

pub returns-in-Encode : goal.returns-in-Encode
returns-in-Encode g c =
    let net = sym c.bytes-in-Encode.ensures in
    let names = sym c.as_slice.ensures in
    let list = sym c.as_slice-in-Encode.ensures in
    let lines = ap rule_lines c.in-Encode.is ∙ (λ i. (codes "encode" ∷ net i ∷ decimal (length (names i)) ∷ names i ++ map code_word (list i)) ∷ []) in
    same adds (sym (single-text c.args.rule.now _ lines)) c.put_encode.ensures

pub returns-in-Fill : goal.returns-in-Fill
returns-in-Fill g c =
    let words = set_word c.in-Fill.out ∷ [] in
    let lines = ap rule_lines c.in-Fill.is ∙ ap (λ w. (codes "fill" ∷ w ∷ words) ∷ []) (sym c.bytes-in-Fill.ensures) in
    same adds (sym (single-text c.args.rule.now _ lines)) c.put_fill.ensures
