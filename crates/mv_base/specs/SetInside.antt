-- The fields of a set of values, and how its number gives them back.
use Rattle.std.proofs.Common.{◌≡◌, ℕ, zero, suc, ◌^◌, List, [], ◌∷◌, get_or, refl, ap, ◌∙◌}
use Rattle.std.proofs.Math.Nat.{zero-div}
use Rattle.std.proofs.lemmas.Nat.{shr_high, mod_low}
use Rattle.mv_base.specs.Words.{number, AreWords, word_of}
use Rattle.mv_base.specs.declared.value_set.ValueSet.TheInside.{Inside}

-- the words of a set, the lowest first
abbrev pub words : Inside → List ℕ
words s = s.w0 ∷ s.w1 ∷ s.w2 ∷ s.w3 ∷ s.w4 ∷ s.w5 ∷ s.w6 ∷ s.w7 ∷ []

pub word_of-zero : (k : ℕ) → word_of 0 k ≡ 0
unfolding word_of
word_of-zero zero = refl
word_of-zero (suc k) = ap (λ n. word_of n k) (zero-div (2 ^ 128)) ∙ word_of-zero k

-- the words of the number of words are these
pub word_of-number : (ws : List ℕ) → AreWords ws → (k : ℕ) → word_of (number ws) k ≡ get_or ws k 0
unfolding word_of
word_of-number [] h k = word_of-zero k
word_of-number (w ∷ ws) h zero = mod_low (number ws) 128 w h.0
word_of-number (w ∷ ws) h (suc k) = ap (λ n. word_of n k) (shr_high (number ws) 128 w h.0)
    ∙ word_of-number ws h.1 k

-- the fields with these words
abbrev pub set_of : ℕ → Inside
set_of n = record {
  w0 = word_of n 0;
  w1 = word_of n 1;
  w2 = word_of n 2;
  w3 = word_of n 3;
  w4 =
      word_of n 4;
  w5 = word_of n 5;
  w6 = word_of n 6;
  w7 = word_of n 7;
}

pub inverse_words : (a : Inside) → AreWords (words a) → set_of (number (words a)) ≡ a
inverse_words a h = λ i. record {
  w0 = word_of-number (words a) h 0 i;
  w1 = word_of-number (words a) h 1 i;
  w2 = word_of-number (words a) h 2 i;
  w3 = word_of-number (words a) h 3 i;
  w4 = word_of-number (words a) h 4 i;
  w5 = word_of-number (words a) h 5 i;
  w6 = word_of-number (words a) h 6 i;
  w7 = word_of-number (words a) h 7 i;
}
