-- Sets of codes as cubes over the nets of the bits.
use Rattle.std.specs.Prelude.{◌≡◌, ℕ, zero, suc, ◌+◌, ◌*◌, ◌<◌, ◌^◌, Bool, true, not, nat_lt, List, [], ◌∷◌, ◌++◌, map, take, drop, if◌then◌else◌}
use Rattle.std.specs.Bool.{beq}
use Rattle.std.specs.List.{list_any, list_all}
use Rattle.std.specs.Cmp.Lexicographic.{pointwise}
use Rattle.mv_base.specs.Set.{has, one}
use Rattle.mv_cover.specs.Literal.{Lit}

-- of each code, by the value that it counts as, whether that is one of the set
abbrev pub marks_of : List ℕ → ℕ → List Bool
marks_of values set = map (λ v. has set v) values

-- the literal that asks the net for this bit
abbrev pub bit_literal : ℕ → ℕ → Lit
bit_literal n bit = record { net = record { 0 = n }; set = one bit }

-- the cubes of the marked codes, of so many bits to come, where n is the net of the next: the one
-- without literals where all codes are marked, none where none is; else by the next bit, which has
-- no literal where both halves are marked alike
abbrev pub code_cubes : ℕ → ℕ → List Bool → List (List Lit)
code_cubes zero n marks = if list_all (λ m. m) marks then [] ∷ [] else []
code_cubes (suc k) n marks =
    if list_all (λ m. m) marks then [] ∷ []
    else if not (list_any (λ m. m) marks) then []
    else if pointwise beq (take (2 ^ k) marks) (drop (2 ^ k) marks) then code_cubes k (n + 1)
    (take (2 ^ k) marks)
    else map (λ c. bit_literal n 0 ∷ c) (code_cubes k (n + 1) (take (2 ^ k) marks))
    ++ map (λ c. bit_literal n 1 ∷ c) (code_cubes k (n + 1) (drop (2 ^ k) marks))

-- the number whose bits so many nets from n on have, the first the highest
abbrev pub number_at : (ℕ → ℕ) → ℕ → ℕ → ℕ
number_at at n zero = 0
number_at at n (suc k) = at n * 2 ^ k + number_at at (n + 1) k

-- so many nets from this one on have one of two values
pub record AreBits (at : ℕ → ℕ) (first bits : ℕ) : Type 0 where
  pub two : (k : ℕ) → k < bits → at (first + k) < 2

-- ---- what private functions alone cite

-- all literals are on nets below this one
abbrev pub AreBelow : ℕ → List Lit → Type 0
AreBelow n cube = list_all (λ l. nat_lt l.net.0 n) cube ≡ true
