use Rattle.std.proofs.Common.{◌∙◌, ◌++◌, map, codes, sym, ap}
use Rattle.std.specs.List.{flat_map}
use Rattle.mv_base.proofs.Gains.{start, next, stop, last}
use Rattle.mv_page.proofs.Adding.{adds}
use Rattle.mv_lex.specs.Text.{line_text}
use Rattle.mv_entry.specs.Entries.{line_words, default_lines}
use Rattle.mv_entry.proofs.Texts.{body-text}
use Rattle.mv_entry.proofs.rule_text.put_body.Goals as goal

pub returns-in_err-put_lines : goal.returns-in_err-put_lines
returns-in_err-put_lines g c =
    let b = c.args.body.now in
    let tail = flat_map line_text (default_lines b.default) ++ codes "end\n" in
    let text = body-text b ∙ ap (λ ls. flat_map line_text (map line_words ls) ++ tail) (sym c.as_slice.ensures) in
    stop adds tail _ _ (start adds _ _) text c.in_err-put_lines.ensures c.from_residual.ensures.1

pub returns-in_err-put_default : goal.returns-in_err-put_default
returns-in_err-put_default g c =
    let b = c.args.body.now in
    let tail = flat_map line_text (default_lines b.default) ++ codes "end\n" in
    let text = body-text b ∙ ap (λ ls. flat_map line_text (map line_words ls) ++ tail) (sym c.as_slice.ensures) in
    let at = next adds (start adds _ _) text c.in_ok-put_lines.ensures in
    stop adds (codes "end\n") _ _ at (ap (λ d. flat_map line_text (default_lines d) ++ codes "end\n") (sym c.default_set.ensures)) c.in_err-put_default.ensures c.from_residual-in_err-put_default.ensures.1

pub returns : goal.returns
returns g c =
    let b = c.args.body.now in
    let tail = flat_map line_text (default_lines b.default) ++ codes "end\n" in
    let text = body-text b ∙ ap (λ ls. flat_map line_text (map line_words ls) ++ tail) (sym c.as_slice.ensures) in
    let at = next adds (start adds _ _) text c.in_ok-put_lines.ensures in
    last adds (next adds at (ap (λ d. flat_map line_text (default_lines d) ++ codes "end\n") (sym c.default_set.ensures)) c.in_ok-put_default.ensures) c.put.ensures
