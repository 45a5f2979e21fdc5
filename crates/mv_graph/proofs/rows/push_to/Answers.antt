-- The list is put back at its place, longer or as it was.
use Rattle.std.proofs.Common.{◌≡◌, ◌∙◌, ◌++◌, ◌∷◌, List, ℕ, [], Some, set, ap, ◌<◌, length}
use Rattle.std.specs.Prelude.{Result, Ok, Err, OnErr}
use Rattle.std.specs.List.{slice_get}
use Rattle.std.proofs.lemmas.List.{set-set, set-get_or}
use Rattle.std.proofs.lemmas.Option.{slice_get-get_or}
use Rattle.mv_base.specs.declared.number.NetId.{NetId}
use Rattle.mv_graph.specs.Nets.{row}
use Rattle.mv_graph.proofs.rows.push_to.Goals as goal

-- a list that was taken out of its place, and another that is put there
put_back : (rows out back : List (List NetId)) (at : ℕ) (none taken list : List NetId) → at < length rows → slice_get rows at ≡ Some taken → out ≡ set rows at none → back ≡ set out at list → (taken ≡ row rows at) × (back ≡ set rows at list)
put_back rows out back at none taken list low was e f =
    let g : slice_get rows at ≡ Some (row rows at) = slice_get-get_or rows at [] low in
    let s : taken ≡ row rows at = cc in
    (s, f ∙ (ap (λ r. set r at list) e ∙ set-set rows at none list))

-- what holds holds at an error
on_err : {T E : Type 0} (r : Result T E) (P : Type 0) → P → OnErr r P
on_err (Ok x) P p = tt
on_err (Err e) P p = p

pub returns-clause-ok : goal.returns-clause-ok
returns-clause-ok c =
    let b = put_back _ _ _ _ _ _ _ c.requires c.replace-list.ensures.before c.replace-list.ensures.items c.replace.ensures.items in
    b.1 ∙ ap (λ v. set c.args.rows.now c.args.at v) (c.in_ok-pushed.ensures.ok ∙ ap (λ l. l ++ c.args.net ∷ []) b.0)

pub returns-in_err-pushed-clause-err : goal.returns-in_err-pushed-clause-err
returns-in_err-pushed-clause-err c =
    let b = put_back _ _ _ _ _ _ _ c.requires c.replace-list.ensures.before c.replace-list.ensures.items c.replace.ensures.items in
    on_err c.from_residual.result _ (b.1 ∙ (ap (λ v. set c.args.rows.now c.args.at v) (c.in_err-pushed.ensures.err ∙ b.0) ∙ set-get_or c.args.rows.now c.args.at []))
