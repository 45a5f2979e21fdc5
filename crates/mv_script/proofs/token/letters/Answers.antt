-- The letters are counted, and so many are taken.
use Rattle.std.proofs.Common.{◌≡◌, length, take, take_while, ap, ◌∙◌, rules, tests}
use Rattle.std.proofs.lemmas.Iterator.{YieldsList-from_slice}
use Rattle.std.proofs.lemmas.Iterator.Consumers.{count_from_yields_List}
use Rattle.std.proofs.lemmas.Iterator.Search.{YieldsList-from_take_while}
use Rattle.std.proofs.lemmas.List.Folds.{length-prefix_len}
use Rattle.mv_script.specs.Texts.{is_letter}
use Rattle.mv_script.proofs.token.letters.Goals as goal

pub returns : goal.returns
returns c =
    let bytes = c.args.bytes.now in
    let e : c.count-end.result ≡ length (take_while is_letter bytes) = count_from_yields_List c.take_while.result _ c.count-end.ensures.ran (YieldsList-from_take_while _ is_letter (YieldsList-from_slice bytes cc) c.take_while.ensures.closure c.take_while.ensures.done (λ x b q k. search (rules, tests))) in
    ap (λ n. take n bytes) (e ∙ length-prefix_len is_letter bytes)
