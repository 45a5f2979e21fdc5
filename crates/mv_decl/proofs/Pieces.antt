-- A word cut at its commas, byte by byte.
use Rattle.std.proofs.Common.{◌≡◌, ℕ, ◌<◌, false, ◌==◌, List, [], ◌∷◌, ◌++◌, length, drop, refl, ap, sym, ◌∙◌, arith, append_assoc, append-nil}
use Rattle.std.specs.Prelude.{codes}
use Rattle.std.specs.List.{slice_split, onto_first, flat_map}
use Rattle.std.proofs.lemmas.List.Splits.{slice_split-cons_no, length-slice_split}
use Rattle.mv_decl.specs.Line.{word_or_none, comma_and, pieces_of}

abbrev cut : List ℕ → List (List ℕ)
cut bytes = slice_split (λ b. b == 44) bytes

-- the words between commas, with a comma before each but the first
abbrev words_between : List (List ℕ) → List (List ℕ)
words_between parts = drop 1 (flat_map comma_and parts)

-- bytes put in front of the first part
abbrev onto_front : List ℕ → List (List ℕ) → List (List ℕ)
onto_front front [] = []
onto_front front (p ∷ ps) = (front ++ p) ∷ ps

-- the pieces of these bytes, with others in front of them that have no comma
unfoldable pub pieces_from : List ℕ → List ℕ → List (List ℕ)
pieces_from front bytes = words_between (onto_front front (cut bytes))

onto_nothing : (parts : List (List ℕ)) → onto_front [] parts ≡ parts
onto_nothing [] = refl
onto_nothing (p ∷ ps) = refl

pub pieces_begin : (bytes : List ℕ) → pieces_from [] bytes ≡ pieces_of bytes
unfolding pieces_from pieces_of
pieces_begin bytes = ap words_between (onto_nothing (cut bytes))

pub pieces_end : (front : List ℕ) → pieces_from front [] ≡ word_or_none front
unfolding pieces_from
pieces_end front = rw (append-nil front, append-nil (word_or_none front)) refl

comma_first : (parts : List (List ℕ)) → 0 < length parts → flat_map comma_and parts ≡ codes "," ∷ words_between parts
comma_first [] low = absurd (omega arith)
comma_first (p ∷ ps) low = refl

-- a comma ends the word in front
pub pieces_comma : (front bytes : List ℕ) → pieces_from front (44 ∷ bytes) ≡ word_or_none front ++ codes "," ∷ pieces_from [] bytes
unfolding pieces_from
pieces_comma front bytes =
    let some : 0 < length (cut bytes) = omega (arith, length-slice_split (λ b. b == 44) bytes) in
    rw (append-nil front, onto_nothing (cut bytes), comma_first (cut bytes) some) refl

-- so a comma is passed, behind the pieces of the bytes before
pub comma_passed : (before target : List (List ℕ)) (front bytes : List ℕ) → before ++ pieces_from front (44 ∷ bytes) ≡ target → ((before ++ word_or_none front) ++ codes "," ∷ []) ++ pieces_from [] bytes ≡ target
comma_passed before target front bytes e = simp append_assoc (ap (λ ps. before ++ ps) (sym (pieces_comma front bytes)) ∙ e)

onto_more : (front : List ℕ) (b : ℕ) (parts : List (List ℕ)) → 0 < length parts → onto_front front (onto_first b parts) ≡ onto_front (front ++ b ∷ []) parts
onto_more front b [] low = absurd (omega arith)
onto_more front b (p ∷ ps) low = rw (append_assoc front (b ∷ []) p) refl

-- any other byte goes on with it
pub pieces_more : (front : List ℕ) (b : ℕ) (bytes : List ℕ) → (b == 44) ≡ false → pieces_from front (b ∷ bytes) ≡ pieces_from (front ++ b ∷ []) bytes
unfolding pieces_from
pieces_more front b bytes other =
    let some : 0 < length (cut bytes) = omega (arith, length-slice_split (λ b. b == 44) bytes) in
    ap (λ parts. words_between (onto_front front parts)) (slice_split-cons_no (λ b. b == 44) b bytes other) ∙ ap words_between (onto_more front b (cut bytes) some)

pub byte_passed : (before target : List (List ℕ)) (front : List ℕ) (b : ℕ) (bytes : List ℕ) → (b == 44) ≡ false → before ++ pieces_from front (b ∷ bytes) ≡ target → before ++ pieces_from (front ++ b ∷ []) bytes ≡ target
byte_passed before target front b bytes other e = ap (λ ps. before ++ ps) (sym (pieces_more front b bytes other)) ∙ e
