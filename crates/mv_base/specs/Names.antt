-- Names as BLIF-MV files spell them, as lists of bytes.
use Rattle.std.specs.Prelude.{◌≡◌, ℕ, Bool, true, false, not, Option, position, slice_index, ◌-◌, ◌&&◌}
use Rattle.std.specs.Prelude.{◌||◌, ◌==◌, nat_le, nat_eq, nat_lt, List, [], ◌∷◌, length, codes}
use Rattle.std.specs.List.{list_all, list_any}
use Rattle.std.specs.Cmp.Lexicographic.{pointwise}

-- two words with the same bytes
abbrev pub same_word : List ℕ → List ℕ → Bool
same_word a b = pointwise nat_eq a b

-- a byte that can be seen: neither a blank nor a control
abbrev pub is_visible : ℕ → Bool
is_visible b = nat_le 33 b && nat_le b 126

-- the word begins with a bracket, `(` or `{`, behind any number of `!`
abbrev pub is_bracketed : List ℕ → Bool
is_bracketed [] = false
is_bracketed (b ∷ bs) = (b == 40) || (b == 123) || ((b == 33) && is_bracketed bs)

-- the word begins with this byte
abbrev pub begins_with : ℕ → List ℕ → Bool
begins_with b w = nat_lt 0 (length w) && (slice_index w 0 == b)

-- the word ends with this byte
abbrev pub ends_with : ℕ → List ℕ → Bool
ends_with b w = nat_lt 0 (length w) && (slice_index w (length w - 1) == b)

-- one single word of a file: visible bytes without a `#`, and no bracketed word. How long it may be
-- is no matter of the format
unfoldable pub is_word : List ℕ → Bool
is_word w = nat_lt 0 (length w) && list_all (λ b. is_visible b && not (b == 35)) w
    && not (is_bracketed w)

-- a lawful name of a net: a word that isn't `->`, doesn't begin with `.`, has no comma and doesn't
-- end in `\`
unfoldable pub is_net_name : List ℕ → Bool
is_net_name w = is_word w && not (same_word w (codes "->")) && not (begins_with 46 w)
    && not (list_any (λ b. b == 44) w) && not (ends_with 92 w)

-- a lawful name of a model: besides it has no `=`
unfoldable pub is_model_name : List ℕ → Bool
is_model_name w = is_net_name w && not (list_any (λ b. b == 61) w)

-- a lawful name of a value: besides it isn't `-`, doesn't begin with `!` or `=`, and has no bracket
unfoldable pub is_value_name : List ℕ → Bool
is_value_name w =
    is_net_name w && not (same_word w (codes "-")) && not (begins_with 33 w)
    && not (begins_with 61 w)
    && not (list_any (λ b. (b == 40) || (b == 41) || (b == 123) || (b == 125)) w)

-- the word is one of these
abbrev pub among : List ℕ → List (List ℕ) → Bool
among w ws = list_any (pointwise nat_eq w) ws

-- the place of the first of these that is the word
abbrev pub place_of : List ℕ → List (List ℕ) → Option ℕ
place_of w ws = position (pointwise nat_eq w) ws

-- no word is among those behind it
abbrev pub AreApart : List (List ℕ) → Type 0
AreApart [] = Unit {0}
AreApart (w ∷ ws) = (among w ws ≡ false) × AreApart ws

-- no word stands twice
pub record IsDistinct (ws : List (List ℕ)) : Type 0 where
  pub apart : AreApart ws

-- no word stands twice, as a test
abbrev pub names_differ : List (List ℕ) → Bool
names_differ [] = true
names_differ (w ∷ ws) = not (among w ws) && names_differ ws
