-- The places of first declarations, when one more declaration stands behind the others.
use Rattle.std.proofs.Common.{◌≡◌, ℕ, ◌+◌, Bool, true, false, List, [], ◌∷◌, ◌++◌, length, Some, None, is_some, refl, sym, ◌∙◌, ap, ⊎_elim, arith, nat_eq}
use Rattle.std.specs.Prelude.{if◌then◌else◌}
use Rattle.std.specs.Option.{option_map}
use Rattle.std.specs.Cmp.Lexicographic.{pointwise}
use Rattle.std.proofs.lemmas.Bool.{cases_Bool, cond-true, cond-false, false≢true}
use Rattle.std.proofs.lemmas.List.{map-append, length-map}
use Rattle.indexmap.specs.IndexMap.{IndexMap, get, Updates}
use Rattle.mv_base.specs.Names.{same_word, among, place_of}
use Rattle.mv_base.proofs.NameLemmas.{same_word_is, same_word_sym, is_some-place_of, place_of-none, place_of-append, place_of-cons}
use Rattle.mv_design.specs.declared.design.Decl.{Decl}
use Rattle.mv_design.specs.Values.{declared_of}
use Rattle.mv_decl.specs.Nets.{AreFirst}

-- among no declarations none is found
pub first-none : {S : Type 0} (places : IndexMap (List ℕ) ℕ S) → places.entries ≡ [] → AreFirst places []
first-none places e = record { place = λ net. rw e refl }

-- a net's place with one more declaration behind the others
place-push : (net : List ℕ) (ds : List Decl) (d : Decl) → place_of net (declared_of (ds ++ d ∷ [])) ≡ (if among net (declared_of ds) then place_of net (declared_of ds) else (if same_word net d.net then Some (length ds) else None))
place-push net ds d =
    ap (place_of net) (map-append (λ (x : Decl). x.net) ds (d ∷ []))
    ∙ (place_of-append net (declared_of ds) (d.net ∷ [])
    ∙ ap (λ o. if among net (declared_of ds) then place_of net (declared_of ds) else o)
    (ap (option_map (λ k. length (declared_of ds) + k)) (place_of-cons net d.net []) ∙ last (same_word net d.net)))
  where
    last : (b : Bool) → option_map (λ k. length (declared_of ds) + k) (if b then Some 0 else None) ≡ (if b then Some (length ds) else None)
    last true = ap Some (let size : length (declared_of ds) ≡ length ds = length-map ds (λ (x : Decl). x.net) in omega arith)
    last false = refl

-- another declaration of a net stands behind its first
pub first-known : {S : Type 0} (places : IndexMap (List ℕ) ℕ S) (ds : List Decl) (d : Decl) → AreFirst places ds → is_some (get (pointwise nat_eq) places d.net) ≡ true → AreFirst places (ds ++ d ∷ [])
first-known places ds d first known = record {
  place = λ net. ⊎_elim
      (λ (y : among net (declared_of ds) ≡ true). first.place net ∙ sym (place-push net ds d ∙ cond-true _ _ _ y))
      (λ (n : among net (declared_of ds) ≡ false). first.place net ∙ (place_of-none net (declared_of ds) n ∙ sym (place-push net ds d ∙ (cond-false _ _ _ n ∙ cond-false _ _ _ (other net n)))))
      (cases_Bool (among net (declared_of ds)));
}
  where
    held : among d.net (declared_of ds) ≡ true
    held = sym (is_some-place_of d.net (declared_of ds)) ∙ (ap is_some (sym (first.place d.net)) ∙ known)

    other : (net : List ℕ) → among net (declared_of ds) ≡ false → same_word net d.net ≡ false
    other net n = ⊎_elim
        (λ (y : same_word net d.net ≡ true). absurd (false≢true (sym n ∙ (ap (λ w. among w (declared_of ds)) (same_word_is net d.net y) ∙ held))))
        (λ o. o)
        (cases_Bool (same_word net d.net))

-- the first declaration of a net
pub first-new : {S : Type 0} (old new : IndexMap (List ℕ) ℕ S) (ds : List Decl) (d : Decl) (k : ℕ) → AreFirst old ds → is_some (get (pointwise nat_eq) old d.net) ≡ false → k ≡ length ds → Updates (pointwise nat_eq) old new d.net (Some k) → AreFirst new (ds ++ d ∷ [])
first-new old new ds d k first new_net is u = record {
  place = λ net. u.0 net ∙ ⊎_elim
      (λ (y : same_word net d.net ≡ true). (
      let none : among net (declared_of ds) ≡ false = ap (λ w. among w (declared_of ds)) (same_word_is net d.net y) ∙ absent in
      cond-true _ _ _ (same_word_sym d.net net ∙ y) ∙ (ap Some is ∙ sym (place-push net ds d ∙ (cond-false _ _ _ none ∙ cond-true _ _ _ y)))
      ))
      (λ (o : same_word net d.net ≡ false). (
      let kept : place_of net (declared_of (ds ++ d ∷ [])) ≡ place_of net (declared_of ds) = ⊎_elim
      (λ (y : among net (declared_of ds) ≡ true). place-push net ds d ∙ cond-true _ _ _ y)
      (λ (n : among net (declared_of ds) ≡ false). place-push net ds d ∙ (cond-false _ _ _ n ∙ (cond-false _ _ _ o ∙ sym (place_of-none net (declared_of ds) n))))
      (cases_Bool (among net (declared_of ds))) in
      cond-false _ _ _ (same_word_sym d.net net ∙ o) ∙ (first.place net ∙ sym kept)
      ))
      (cases_Bool (same_word net d.net));
}
  where
    absent : among d.net (declared_of ds) ≡ false
    absent = sym (is_some-place_of d.net (declared_of ds)) ∙ (ap is_some (sym (first.place d.net)) ∙ new_net)

pub ruleset firsts = (first-none, first-known, first-new)
