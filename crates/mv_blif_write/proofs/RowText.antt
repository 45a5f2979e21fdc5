-- Rows of a table, as they are written.
use Rattle.std.proofs.Common.{◌≡◌, ◌∙◌, ℕ, ◌<◌, Bool, true, false, List, [], ◌∷◌, ◌++◌, length, map, refl, sym, ap, ⊎_elim, arith}
use Rattle.std.specs.List.{flat_map, list_any}
use Rattle.std.proofs.lemmas.Bool.{cases_Bool}
use Rattle.std.proofs.lemmas.List.{append-nil}
use Rattle.mv_base.specs.declared.number.NetId.{NetId}
use Rattle.mv_lex.specs.Text.{spaced, line_text}
use Rattle.mv_cover.specs.Literal.{Lit}
use Rattle.mv_cover.specs.declared.line.Line.{Line}
use Rattle.mv_cover.specs.declared.cover.Cover.{Cover}
use Rattle.mv_cover.specs.Covers.{default_gives}
use Rattle.mv_chosen.specs.Binary.{lacks_one}
use Rattle.mv_text.specs.Text.{numbers}
use Rattle.mv_blif_text.specs.BlifText.{plane_byte, row_words, picks, digit_of, rows_words, zeros_words, choice_words}

-- ---- one row

pub row-bare : (fanins : List NetId) (digit : ℕ) (cube : List Lit) → length fanins ≡ 0 → line_text (row_words (numbers fanins) digit cube) ≡ digit ∷ 10 ∷ []
unfolding line_text spaced
row-bare [] digit cube e = refl
row-bare (n ∷ ns) digit cube e = absurd (omega arith)

pub row-plane : (fanins : List NetId) (digit : ℕ) (cube : List Lit) → 0 < length fanins
    → line_text (row_words (numbers fanins) digit cube) ≡ map (plane_byte cube) (numbers fanins) ++ 32 ∷ digit ∷ 10 ∷ []
unfolding line_text spaced
row-plane [] digit cube e = absurd (omega arith)
row-plane (n ∷ ns) digit cube e = refl

-- ---- the rows for one output

-- the text of the rows for 1, or for 0, of these lines
abbrev pub rows_text : List ℕ → Bool → List Line → List ℕ
rows_text fanins ones ls = flat_map line_text (rows_words fanins ones ls)

pub picked-none : (fanins : List ℕ) (ones : Bool) (l : Line) → picks ones l ≡ false → rows_text fanins ones (l ∷ []) ≡ []
picked-none fanins ones l f = rw f refl

pub picked-one : (fanins : List ℕ) (ones : Bool) (l : Line) (cube : List Lit) (digit : ℕ) → picks ones l ≡ true → cube ≡ l.cube → digit ≡ digit_of ones → rows_text fanins ones (l ∷ []) ≡ line_text (row_words fanins digit cube)
picked-one fanins ones l cube digit y is said =
    rw y (append-nil (line_text (row_words fanins (digit_of ones) l.cube)) ∙ (λ j. line_text (row_words fanins (sym said j) (sym is j))))

pub rows-more : (fanins : List ℕ) (ones : Bool) (l : Line) (ls : List Line) → rows_text fanins ones (l ∷ ls) ≡ rows_text fanins ones (l ∷ []) ++ rows_text fanins ones ls
rows-more fanins ones l ls =
    ⊎_elim
    (λ (y : picks ones l ≡ true). rw y (ap (λ t. t ++ rows_text fanins ones ls) (sym (append-nil (line_text (row_words fanins (digit_of ones) l.cube))))))
    (λ (f : picks ones l ≡ false). rw f refl)
    (cases_Bool (picks ones l))

-- ---- those of a cover

pub zeros-some : (fanins : List ℕ) (ls : List Line) → list_any lacks_one ls ≡ true → flat_map line_text (zeros_words fanins ls) ≡ rows_text fanins false ls
zeros-some fanins ls y = rw y refl

pub zeros-none : (fanins : List ℕ) (ls : List Line) → list_any lacks_one ls ≡ false → flat_map line_text (zeros_words fanins ls) ≡ line_text (row_words fanins 49 [])
zeros-none fanins ls f = rw f (append-nil (line_text (row_words fanins 49 [])))

pub choice-zeros : (fanins : List ℕ) (c : Cover) (ls : List Line) → default_gives c.default 1 ≡ true → ls ≡ c.lines → flat_map line_text (choice_words fanins c) ≡ flat_map line_text (zeros_words fanins ls)
choice-zeros fanins c ls y is = rw y (ap (λ xs. flat_map line_text (zeros_words fanins xs)) (sym is))

pub choice-ones : (fanins : List ℕ) (c : Cover) (ls : List Line) → default_gives c.default 1 ≡ false → ls ≡ c.lines → flat_map line_text (choice_words fanins c) ≡ rows_text fanins true ls
choice-ones fanins c ls f is = rw f (ap (rows_text fanins true) (sym is))
