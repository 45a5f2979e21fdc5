-- Names of two lists in one, each once.
use Rattle.std.proofs.Common.{◌≡◌, ℕ, true, false, not, List, [], ◌∷◌, ◌++◌, ◌∙◌}
use Rattle.std.proofs.lemmas.Bool.{and_from, and_parts, or_from, not-true, not_from_false, or_left, or_right}
use Rattle.mv_base.specs.Names.{same_word, among, names_differ}
use Rattle.mv_base.proofs.NameLemmas.{among-append, same_word_refl}

-- names differ in two lists in one, where they do in each and none is in both
pub both_differ : (us ws : List (List ℕ)) → names_differ us ≡ true → names_differ ws ≡ true → ((w : List ℕ) → among w us ≡ true → among w ws ≡ false)
    → names_differ (us ++ ws) ≡ true
both_differ [] ws d e h = e
both_differ (u ∷ us) ws d e h =
    let q = and_parts (not (among u us)) (names_differ us) d in
    let none : among u (us ++ ws) ≡ false = among-append u us ws ∙ or_from (among u us) (among u ws) (not-true _ q.0) (h u (or_left _ _ (same_word_refl u))) in
    and_from _ _ (not_from_false _ none) (both_differ us ws q.1 e (λ w a. h w (or_right (same_word w u) _ a)))
