-- The lines of a summary, in the pieces in which they are put.
use Rattle.std.proofs.Common.{◌≡◌, ℕ, ◌+◌, ◌<◌, ◌≤◌, List, [], ◌∷◌, ◌++◌, length, get_or, drop, refl, append_assoc}
use Rattle.std.specs.Prelude.{codes, decimal}
use Rattle.std.proofs.lemmas.List.{drop_more, drop_all}
use Rattle.mv_work.specs.declared.summary.Summary.{Summary}
use Rattle.mv_work.specs.Summing.{numbers_text, number_line, summary_text}

-- the number at a place, before those behind it
pub numbers-first : (numbers : List ℕ) (i n : ℕ) (digits : List ℕ) → i < length numbers → n ≡ get_or numbers i 0 → digits ≡ decimal n → numbers_text (drop i numbers) ≡ (32 ∷ [] ++ digits) ++ numbers_text (drop (i + 1) numbers)
numbers-first numbers i n digits l e d = rw (drop_more numbers i 0 l, d, e) refl

pub numbers-none : (numbers : List ℕ) (i : ℕ) → length numbers ≤ i → numbers_text (drop i numbers) ≡ []
numbers-none numbers i l = rw (drop_all i numbers l) refl

pub line-first : (word numbers : List ℕ) → number_line word numbers ≡ word ++ (numbers_text numbers ++ 10 ∷ [])
line-first word numbers = append_assoc word (numbers_text numbers) (10 ∷ [])

-- the lines behind the first, the second, and so on
abbrev pub rules_behind : Summary → List ℕ
rules_behind s = number_line (codes "rules") (s.rules ∷ []) ++ number_line (codes "dropped") (s.dropped ∷ [])

abbrev pub commands_behind : Summary → List ℕ
commands_behind s = number_line (codes "commands") (s.commands ∷ []) ++ rules_behind s

abbrev pub literals_behind : Summary → List ℕ
literals_behind s = number_line (codes "literals") (s.literals_before ∷ s.literals_after ∷ []) ++ commands_behind s

regroup : (a b c d e : List ℕ) → a ++ b ++ c ++ d ++ e ≡ a ++ (b ++ (c ++ (d ++ e)))
regroup a b c d e = simp append_assoc

pub summary-first : (s : Summary) → summary_text s ≡ number_line (codes "nets") (s.nets ∷ []) ++ literals_behind s
unfolding summary_text
summary-first s = regroup (number_line (codes "nets") (s.nets ∷ [])) (number_line (codes "literals") (s.literals_before ∷ s.literals_after ∷ [])) (number_line (codes "commands") (s.commands ∷ [])) (number_line (codes "rules") (s.rules ∷ [])) (number_line (codes "dropped") (s.dropped ∷ []))
