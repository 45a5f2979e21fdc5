-- The first of each of the lines differ.
use Rattle.std.proofs.Common.{◌≡◌, true, false, not, filter, List, [], ◌∷◌, Bool, refl, sym, ◌∙◌, inl, inr}
use Rattle.std.specs.List.{list_any}
use Rattle.std.proofs.lemmas.Bool.{cases_Bool, false≢true, not-true, and_parts, and_from, or_parts, not_from_false, false_from_ne_true}
use Rattle.mv_cover.specs.Absorb.{firsts}
use Rattle.mv_cover.specs.Lines.{lines_differ}
use Rattle.mv_cover.specs.Equal.{line_eq}
use Rattle.mv_cover.specs.Keys.{line_eq-Decides}
use Rattle.mv_cover.specs.declared.line.Line.{Line}

any-filtered : (q p : Line → Bool) (ls : List Line) → list_any q ls ≡ false → list_any q (filter p ls) ≡ false
any-filtered q p [] none = refl
any-filtered q p (l ∷ ls) none =
    let n = or_parts (q l) (list_any q ls) none in
    let rest = any-filtered q p ls n.1 in
    elim (cases_Bool (p l)) [
      | inl t ↦ rw (t, n.0) rest
      | inr f ↦ rw f rest
    ]

pub differ-filtered : (p : Line → Bool) (ls : List Line) → lines_differ ls ≡ true → lines_differ (filter p ls) ≡ true
differ-filtered p [] d = refl
differ-filtered p (l ∷ ls) d =
    let n = and_parts (not (list_any (line_eq l) ls)) (lines_differ ls) d in
    let rest = differ-filtered p ls n.1 in
    elim (cases_Bool (p l)) [
      | inl t ↦ rw t (and_from _ _ (not_from_false _ (any-filtered (line_eq l) p ls (not-true _ n.0))) rest)
      | inr f ↦ rw f rest
    ]

eq-sym : (l m : Line) → line_eq l m ≡ true → line_eq m l ≡ true
eq-sym l m h = (line_eq-Decides m l).1 (sym ((line_eq-Decides l m).0 h))

none-equal : (l : Line) (ls : List Line) → list_any (line_eq l) (filter (λ (m : Line). not (line_eq m l)) ls) ≡ false
none-equal l [] = refl
none-equal l (m ∷ ls) =
    elim (cases_Bool (line_eq m l)) [
      | inl t ↦ rw t (none-equal l ls)
      | inr f ↦ rw (f, false_from_ne_true (line_eq l m) (λ y. false≢true (sym f ∙ eq-sym l m y))) (none-equal l ls)
    ]

pub differ-firsts : (ls : List Line) → lines_differ (firsts ls) ≡ true
differ-firsts [] = refl
differ-firsts (l ∷ ls) = and_from _ _ (not_from_false _ (none-equal l (firsts ls))) (differ-filtered (λ (m : Line). not (line_eq m l)) (firsts ls) (differ-firsts ls))
