-- The first literal's set, or that of all values, whose entry is a hyphen.
use Rattle.std.proofs.Common.{◌≡◌, ◌∙◌, ◌++◌, ◌∷◌, [], codes, refl, sym, ap}
use Rattle.std.proofs.lemmas.Bool.{eq-eqb}
use Rattle.mv_base.specs.Set.{full}
use Rattle.mv_base.proofs.Gains.{same}
use Rattle.mv_page.proofs.Adding.{adds}
use Rattle.mv_net.specs.Nets.{slot, values_in, spelled_in}
use Rattle.mv_net.specs.Index.{value_names_in}
use Rattle.mv_text.specs.Text.{entry_word}
use Rattle.mv_write.specs.Walk.{first_set}
use Rattle.mv_write.proofs.Literals.{first-output}
use Rattle.mv_write.proofs.Spelling.{spelled-is, are-values, entry-all}
use Rattle.mv_write.proofs.rows.put_fanin.Goals as goal

pub put_literal-requires-clause-set : goal.put_literal-requires-clause-set
put_literal-requires-clause-set g c =
    first-output c.args.net.now c.args.lits.now c.args.n.0 c.in-Some.lit.now.set (values_in (slot c.args.net.now.nets c.args.n.0)) c.well_formed-2.ensures c.requires.held c.requires.literals refl (sym (c.in-Some.ensures.some _))

pub returns-in-None : goal.returns-in-None
returns-in-None g c =
    let f = slot c.args.net.now.nets c.args.n.0 in
    let count = values_in f in
    let all : first_set count c.args.lits.now c.args.n.0 ≡ full count = c.in-None.ensures.none refl count in
    let hyphen : entry_word (spelled_in f) (full count) ≡ codes "-" =
    ap (λ values. entry_word values (full count)) (sym (spelled-is f c.requires.held)) ∙ entry-all count (value_names_in f) (full count) (are-values c.args.net.now c.args.n.0 c.well_formed-2.ensures c.requires.held) (eq-eqb (full count) (full count) refl) in
    let text = ap (λ set. entry_word (spelled_in f) set ++ 32 ∷ []) all ∙ ap (λ word. word ++ 32 ∷ []) hyphen in
    same adds (sym text) c.put.ensures
