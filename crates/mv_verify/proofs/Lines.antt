-- The lines of an answer, piece by piece.
use Rattle.std.proofs.Common.{◌≡◌, ℕ, ◌+◌, ◌<◌, ◌≤◌, List, [], ◌∷◌, ◌++◌, length, get_or, drop, map, decimal, sym, ap}
use Rattle.std.specs.List.{flat_map}
use Rattle.std.proofs.lemmas.List.{at_drop_more, at_drop_all}
use Rattle.mv_base.specs.declared.number.Value.{Value}
use Rattle.mv_lex.specs.Text.{spaced, line_text}
use Rattle.mv_verify.specs.Texts.{values_line}

-- values as words
abbrev pub numbers : List Value → List (List ℕ)
numbers vs = map decimal (map (λ (v : Value). v.0) vs)

-- the values from a place on
pub numbers_more : (vs : List Value) (k : ℕ) (none : Value) → k < length vs → spaced (numbers (drop k vs)) ≡ (32 ∷ decimal (get_or vs k none).0) ++ spaced (numbers (drop (k + 1) vs))
unfolding spaced
numbers_more vs k none less = at_drop_more (λ us. flat_map (λ (w : List ℕ). 32 ∷ w) (numbers us)) vs k none less

pub numbers_none : (vs : List Value) (k : ℕ) → length vs ≤ k → spaced (numbers (drop k vs)) ≡ []
unfolding spaced
numbers_none vs k past = at_drop_all (λ us. flat_map (λ (w : List ℕ). 32 ∷ w) (numbers us)) vs k past

-- a line: its word, its values and the line feed
pub line_of : (word values : List ℕ) (vs : List Value) → map (λ (v : Value). v.0) vs ≡ values → values_line word values ≡ word ++ (spaced (numbers vs) ++ 10 ∷ [])
unfolding values_line line_text
line_of word values vs is = ap (λ us. word ++ (spaced (map decimal us) ++ 10 ∷ [])) (sym is)
