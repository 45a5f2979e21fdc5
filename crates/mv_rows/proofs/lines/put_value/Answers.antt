-- The row with the value alone at the place: what the code writes is what the definition says.
use Rattle.std.proofs.Common.{◌≡◌, ◌∙◌, get_or, set, sym}
use Rattle.std.proofs.lemmas.Bool.{eqb-true}
use Rattle.std.proofs.lemmas.Grind.{get_or_default_zero}
use Rattle.mv_base.specs.Set.{empty, one, meet}
use Rattle.mv_rows.specs.Lines.{narrowed}
use Rattle.mv_rows.proofs.Values.{no_value, fit_narrowed, AddsLines-none}
use Rattle.mv_rows.proofs.lines.put_value.Goals as goal

pub returns-then-is_empty-clause-lines : goal.returns-then-is_empty-clause-lines
returns-then-is_empty-clause-lines c =
    let here : c.index-sets-place.result ≡ get_or c.args.sets.now c.args.place 0 = c.index-sets-place.is ∙ get_or_default_zero _ _ _ c.requires.place in
    let met : c.in_ok-set.set ≡ meet (get_or c.args.sets.now c.args.place 0) (one c.args.value.0) = c.in_ok-set.ensures ∙ λ i. meet (here i) (c.in_ok-alone.ensures i) in
    let none : c.in_ok-set.set ≡ empty = eqb-true _ _ (sym c.is_empty.ensures ∙ c.if-is_empty.true) in
    AddsLines-none _ _ (no_value c.args.frame.now.columns c.args.sets.now c.args.place c.args.value.0 c.requires.place (sym met ∙ none))

pub put_line-requires-clause-sets : goal.put_line-requires-clause-sets
put_line-requires-clause-sets c =
    let here : c.index-sets-place.result ≡ get_or c.args.sets.now c.args.place 0 = c.index-sets-place.is ∙ get_or_default_zero _ _ _ c.requires.place in
    let met : c.in_ok-set.set ≡ meet (get_or c.args.sets.now c.args.place 0) (one c.args.value.0) = c.in_ok-set.ensures ∙ λ i. meet (here i) (c.in_ok-alone.ensures i) in
    let same : c.as_slice.result.now ≡ narrowed c.args.sets.now c.args.place c.args.value.0 =
    c.as_slice.ensures ∙ (c.replace.ensures.items ∙ λ i. set (c.in_ok-narrowed.ensures i) c.args.place (met i)) in
    rw same (fit_narrowed c.args.frame.now.columns c.args.sets.now c.args.place c.args.value.0 c.requires.sets)
