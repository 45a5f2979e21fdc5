-- Names for new nets.
use Rattle.std.specs.Prelude.{◌≡◌, ℕ, ◌-◌, ◌<◌, ◌≤◌, Bool, true, false, not, ◌&&◌, ◌||◌, nat_eq, nat_lt, Option, Some, None, List, [], ◌∷◌, ◌++◌, length, codes, decimal, count_by}
use Rattle.std.specs.List.{list_any, range_with_len}
use Rattle.mv_base.specs.Names.{same_word}
use Rattle.mv_net.specs.declared.parts.FlatNet.{FlatNet}

-- the made name with a number: `_m` and the number
abbrev pub made_name : ℕ → List ℕ
made_name n = codes "_m" ++ decimal n

-- the net is held and has this name
abbrev pub is_named : List ℕ → Option FlatNet → Bool
is_named name None = false
is_named name (Some f) = same_word f.name name

-- a net has the made name with this number
abbrev pub is_taken : List (Option FlatNet) → ℕ → Bool
is_taken nets k = list_any (is_named (made_name k)) nets

-- the made name with a number, which no net has
pub record IsFreeName (nets : List (Option FlatNet)) (number : ℕ) (name : List ℕ) : Type 0 where
  pub is : name ≡ made_name number
  pub free : is_taken nets number ≡ false

-- the made name with a positive number, which no net has, where so many smaller positive numbers
-- have names that no net has
pub record IsFreshName (nets : List (Option FlatNet)) (skip : ℕ) (name : List ℕ) : Type 0 where
  pub number : ℕ
  pub positive : 0 < number
  pub free : IsFreeName nets number name
  pub behind : count_by (λ k. not (is_taken nets k)) (range_with_len 1 (number - 1)) ≡ skip

-- nets have all made names with positive numbers up to this
pub record AreMade (nets : List (Option FlatNet)) (made : ℕ) : Type 0 where
  pub taken : (k : ℕ) → 0 < k → k ≤ made → is_taken nets k ≡ true

-- ---- what private functions alone cite

-- the bytes begin above `0`, or are `0`
abbrev pub is_plain : List ℕ → Bool
is_plain [] = false
is_plain (d ∷ ds) = nat_lt 48 d || (nat_eq d 48 && nat_eq (length (d ∷ ds)) 1)
