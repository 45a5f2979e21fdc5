-- Codes of the values of a net: the number of a code, and the value that each code counts as.
use Rattle.std.specs.Prelude.{◌≡◌, ℕ, zero, suc, ◌+◌, ◌*◌, ◌<◌, ◌≤◌, ◌^◌, Bool, true, false, ◌&&◌, not, nat_eq, List, [], ◌∷◌, length, map, All, if◌then◌else◌}
use Rattle.std.specs.Bool.{beq}
use Rattle.std.specs.List.{list_any, range_with_len, slice_index_or}
use Rattle.std.specs.Cmp.Lexicographic.{pointwise}
use Rattle.mv_base.specs.declared.limits.TheConstants.{MAX_CODE_BITS}
use Rattle.mv_entry.specs.declared.rule.Code.{Code}

-- a bit as a value
abbrev pub bit_number : Bool → ℕ
bit_number b = if b then 1 else 0

-- the number of these bits, the first the highest
abbrev pub bits_number : List Bool → ℕ
bits_number [] = 0
bits_number (b ∷ bs) = bit_number b * 2 ^ length bs + bits_number bs

-- the value that a code counts as, by its number: the first value that has it, or else the greatest
abbrev pub value_of : List Code → ℕ → ℕ
value_of [] x = 0
value_of (c ∷ []) x = 0
value_of (c ∷ d ∷ cs) x = if nat_eq (bits_number c.bits) x then 0 else value_of (d ∷ cs) x + 1

-- the value that each code of so many bits counts as, by its number
unfoldable pub code_values : List Code → ℕ → List ℕ
code_values codes bits = map (value_of codes) (range_with_len 0 (2 ^ bits))

-- the bits of the value's code
abbrev pub code_bits : List Code → ℕ → List Bool
code_bits [] v = []
code_bits (c ∷ cs) zero = c.bits
code_bits (c ∷ cs) (suc v) = code_bits cs v

-- the bit at place k of the value's code
unfoldable pub bit_of : List Code → ℕ → ℕ → Bool
bit_of codes k v = slice_index_or (code_bits codes v) k false

-- how many bits the codes have, as the first of them
abbrev pub bits_in : List Code → ℕ
bits_in [] = 0
bits_in (c ∷ cs) = length c.bits

-- the same bits
abbrev pub code_eq : Code → Code → Bool
code_eq a b = pointwise beq a.bits b.bits

-- no code is equal to a later one
abbrev pub codes_differ : List Code → Bool
codes_differ [] = true
codes_differ (c ∷ cs) = not (list_any (code_eq c) cs) && codes_differ cs

-- codes of so many bits for so many values: one for each, none twice
pub record AreCodes (values bits : ℕ) (codes : List Code) : Type 0 where
  pub several : 2 < values
  pub count : length codes ≡ values
  pub long : All (λ (c : Code). length c.bits ≡ bits) codes
  pub differ : codes_differ codes ≡ true
  pub few : bits ≤ MAX_CODE_BITS
