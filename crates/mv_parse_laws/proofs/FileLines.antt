-- The numbers of a file's lines ascend: each line but the last is joined of one physical line at least.
use Rattle.std.proofs.Common.{◌≡◌, ℕ, ◌+◌, ◌<◌, true, List, [], ◌∷◌, ◌++◌, length, refl, sym, subst, arith}
use Rattle.std.specs.List.{slice_split}
use Rattle.std.proofs.lemmas.Bool.{cond_both}
use Rattle.mv_lex.specs.declared.lines.LexLine.{LexLine}
use Rattle.mv_lex.specs.Lines.{is_line_feed, joins, texts, onto_group, joined, unended, words_of, line_at, numbered, lines_of}
use Rattle.mv_design.specs.Proper.{numbers_ascend}
use Rattle.mv_parse_laws.specs.Lines.{numbers_of, AreOfFile}
use Rattle.mv_parse_laws.proofs.Ascending.{ascend-tail, ascend-cons, ascend-lower}

-- each of these has a physical line
abbrev HaveLines : List (List (List ℕ)) → Type 0
HaveLines [] = Unit {0}
HaveLines (group ∷ groups) = (0 < length group) × HaveLines groups

onto-lines : (line : List ℕ) (groups : List (List (List ℕ))) → HaveLines groups → HaveLines (onto_group line groups)
onto-lines line [] h = tt
onto-lines line (group ∷ groups) h = (omega arith, h.1)

joined-lines : (lines : List (List ℕ)) → HaveLines (joined lines)
joined-lines [] = tt
joined-lines (line ∷ lines) =
    cond_both (joins line) (onto_group line (joined lines)) ((line ∷ []) ∷ joined lines) HaveLines
    (λ y. onto-lines line (joined lines) (joined-lines lines))
    (λ n. (omega arith, joined-lines lines))

-- a joined line, which may have no words, and the lines behind it
one-more : (low number : ℕ) (words : List (List ℕ)) (rest : List LexLine) → low < number → numbers_ascend (number ∷ numbers_of rest) ≡ true → numbers_ascend (low ∷ numbers_of (line_at number words ++ rest)) ≡ true
one-more low number [] rest above up = ascend-lower low number (numbers_of rest) above up
one-more low number (w ∷ words) rest above up = ascend-cons low number (numbers_of rest) above up

-- the lines that are numbered from one on, above any lower number
numbered-ascend : (low number : ℕ) (groups : List (List (List ℕ))) (last : List (List ℕ)) → low < number → HaveLines groups → numbers_ascend (low ∷ numbers_of (numbered number (groups ++ last ∷ []))) ≡ true
numbered-ascend low number [] last above h = one-more low number (words_of (texts last)) [] above refl
numbered-ascend low number (group ∷ groups) last above h =
    let some = h.0 in
    one-more low number (words_of (texts group)) (numbered (number + length group) (groups ++ last ∷ [])) above (numbered-ascend number (number + length group) groups last (omega arith) h.1)

pub lines-ascend : (bytes : List ℕ) → numbers_ascend (numbers_of (lines_of bytes)) ≡ true
unfolding lines_of
lines-ascend bytes =
    let lines : List (List ℕ) = slice_split is_line_feed bytes in
    ascend-tail 0 (numbers_of (numbered 1 (joined lines ++ unended lines ∷ []))) (numbered-ascend 0 1 (joined lines) (unended lines) (omega arith) (joined-lines lines))

pub file_ascends : (lines : List LexLine) → AreOfFile lines → numbers_ascend (numbers_of lines) ≡ true
file_ascends lines h =
    let P : List LexLine → Type 0 = λ ls. numbers_ascend (numbers_of ls) ≡ true in
    subst P (sym h.are) (lines-ascend h.bytes)
