-- A set of values as words of 128 bits, the lowest first.
use Rattle.std.specs.Prelude.{ℕ, zero, suc, ◌+◌, ◌*◌, ◌/◌, ◌%◌, ◌^◌, ◌<◌, List, [], ◌∷◌, ◌++◌, nat_lt, if◌then◌else◌}
use Rattle.std.specs.Hash as fed
use Rattle.std.specs.Hash.{HashWrites}

-- the number that the words make
abbrev pub number : List ℕ → ℕ
number [] = 0
number (w ∷ ws) = number ws * 2 ^ 128 + w

-- each of these is a word of 128 bits
abbrev pub AreWords : List ℕ → Type 0
AreWords [] = Unit {0}
AreWords (w ∷ ws) = (w < 2 ^ 128) × AreWords ws

-- the word of n at a place
unfoldable pub word_of : ℕ → ℕ → ℕ
word_of n zero = n % 2 ^ 128
word_of n (suc at) = word_of (n / 2 ^ 128) at

-- what a hasher is fed of a set: its eight words
abbrev pub set_fed : ℕ → HashWrites
set_fed n = fed.u128 (word_of n 0) ++ fed.u128 (word_of n 1) ++ fed.u128 (word_of n 2)
    ++ fed.u128 (word_of n 3) ++ fed.u128 (word_of n 4) ++ fed.u128 (word_of n 5)
    ++ fed.u128 (word_of n 6) ++ fed.u128 (word_of n 7)

-- what a hasher is fed of a set that is kept: few bits alone, or all words
abbrev pub kept_fed : ℕ → HashWrites
kept_fed n = if nat_lt n (2 ^ 64) then fed.u64 n else set_fed n
