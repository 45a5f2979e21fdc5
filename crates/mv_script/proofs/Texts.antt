-- The tokens of a text, place by place.
use Rattle.std.proofs.Common.{◌≡◌, ℕ, ◌+◌, List, [], ◌∷◌, ◌++◌, map, sym, ◌∙◌, ap, refl, arith}
use Rattle.std.specs.Prelude.{flat_map}
use Rattle.std.specs.List.{range_with_len}
use Rattle.std.proofs.lemmas.List.{flat_map_more}
use Rattle.std.proofs.lemmas.List.Folds.{length-prefix_len}
use Rattle.std.proofs.lemmas.List.FromFn.{map-range_with_len_more}
use Rattle.std.proofs.lemmas.List.Sums.{prefix_len-le-length}
use Rattle.mv_script.specs.declared.token.Token.{Token}
use Rattle.mv_script.specs.Texts.{token_at}

-- how many letters the bytes begin with
pub ruleset letters_first = (length-prefix_len, prefix_len-le-length)

-- the tokens that begin at places before this one
abbrev pub tokens_before : List ℕ → ℕ → List Token
tokens_before said n = flat_map (λ p. token_at said p) (range_with_len 0 n)

map-self : (xs : List ℕ) → map (λ x. x) xs ≡ xs
map-self [] = refl
map-self (x ∷ xs) = ap (λ t. x ∷ t) (map-self xs)

-- numbers from 0 on, and one more
range_more : (n : ℕ) → range_with_len 0 (n + 1) ≡ range_with_len 0 n ++ n ∷ []
range_more n =
    sym (map-self (range_with_len 0 (n + 1))) ∙ map-range_with_len_more (λ x. x) 0 n n (omega arith) ∙ ap (λ t. t ++ n ∷ []) (map-self (range_with_len 0 n))

-- one place more
pub tokens_so_far : (said : List ℕ) (n : ℕ) → tokens_before said (n + 1) ≡ tokens_before said n ++ token_at said n
tokens_so_far said n =
    ap (λ t. flat_map (λ p. token_at said p) t) (range_more n) ∙ sym (flat_map_more (λ p. token_at said p) [] (range_with_len 0 n) n)
