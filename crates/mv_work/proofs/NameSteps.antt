-- The names of nets at neighbouring places, and the lines with them.
use Rattle.std.proofs.Common.{◌≡◌, ◌∙◌, ℕ, ◌+◌, List, [], ◌∷◌, ◌++◌, refl, sym}
use Rattle.std.specs.List.{range_with_len}
use Rattle.std.proofs.lemmas.List.{map-id, flat_map_more, append_assoc}
use Rattle.std.proofs.lemmas.List.FromFn.{map-range_with_len_more}
use Rattle.mv_work.specs.Work.{net_name, names_text}

range-more : (first n : ℕ) → range_with_len first (n + 1) ≡ range_with_len first n ++ (first + n) ∷ []
range-more first n =
    sym (map-id (range_with_len first (n + 1))) ∙ map-range_with_len_more (λ x. x) first n (first + n) refl ∙ rw (map-id (range_with_len first n)) refl

-- one more place
pub range-text : (had : List ℕ) (first n : ℕ) (before after : List ℕ) → before ≡ had ++ names_text (range_with_len first n) → after ≡ (before ++ 32 ∷ []) ++ net_name (first + n) → after ≡ had ++ names_text (range_with_len first (n + 1))
range-text had first n before after b a =
    a ∙ rw (range-more first n, b, append_assoc (had ++ names_text (range_with_len first n)) (32 ∷ []) (net_name (first + n))) (flat_map_more (λ p. 32 ∷ net_name p) had _ _)

-- five pieces, one behind the other
pub five-pieces : (had a b c d e t1 t2 t3 t4 t5 : List ℕ) → t1 ≡ had ++ a → t2 ≡ t1 ++ b → t3 ≡ t2 ++ c → t4 ≡ t3 ++ d → t5 ≡ t4 ++ e → t5 ≡ had ++ (a ++ b ++ c ++ d ++ e)
five-pieces had a b c d e t1 t2 t3 t4 t5 p q r s t = rw (t, s, r, q, p) (simp append_assoc)
