-- The lines of a file in parts, behind one more line.
use Rattle.std.proofs.Common.{◌≡◌, true, false, List, [], ◌∷◌, ◌++◌, map, refl, ap, ◌∙◌, ⊎_elim}
use Rattle.std.proofs.lemmas.Bool.{cases_Bool}
use Rattle.std.proofs.lemmas.List.{map-append}
use Rattle.mv_lex.specs.declared.lines.LexLine.{LexLine}
use Rattle.mv_lex.specs.Cuts.{closed, open_piece}
use Rattle.mv_lex.proofs.Cuts.{closed-end, closed-more, open_piece-end, open_piece-more}
use Rattle.mv_parse.specs.Known.{says_root, ends_part, unrooted, ended_parts, open_part}

-- a part whose first line doesn't name the root stays whole
pub unrooted-first : (l : LexLine) (ls : List LexLine) → says_root l ≡ false → unrooted (l ∷ ls) ≡ l ∷ ls
unrooted-first l ls n = rw n refl

-- a line that ends no part stands behind the open model's, or begins one unless it names the root
abbrev pub opened_with : List LexLine → LexLine → List LexLine
opened_with [] l = unrooted (l ∷ [])
opened_with (m ∷ ls) l = m ∷ ls ++ l ∷ []

unrooted-push : (part : List LexLine) (l : LexLine) → unrooted (part ++ l ∷ []) ≡ opened_with (unrooted part) l
unrooted-push [] l = refl
unrooted-push (x ∷ part) l =
    ⊎_elim
    (λ (y : says_root x ≡ true). rw y (unrooted-push part l))
    (λ (n : says_root x ≡ false). rw n refl)
    (cases_Bool (says_root x))

pub open_part-more : (ls : List LexLine) (l : LexLine) → ends_part l ≡ false → open_part (ls ++ l ∷ []) ≡ opened_with (open_part ls) l
open_part-more ls l n = ap unrooted (open_piece-more ends_part ls l n) ∙ unrooted-push (open_piece ends_part ls) l

pub ended_parts-more : (ls : List LexLine) (l : LexLine) → ends_part l ≡ false → ended_parts (ls ++ l ∷ []) ≡ ended_parts ls
ended_parts-more ls l n = ap (map unrooted) (closed-more ends_part ls l n)

-- one that ends it
pub open_part-end : (ls : List LexLine) (l : LexLine) → ends_part l ≡ true → open_part (ls ++ l ∷ []) ≡ []
open_part-end ls l y = ap unrooted (open_piece-end ends_part ls l y)

pub ended_parts-end : (ls : List LexLine) (l : LexLine) → ends_part l ≡ true → ended_parts (ls ++ l ∷ []) ≡ ended_parts ls ++ open_part ls ∷ []
ended_parts-end ls l y = ap (map unrooted) (closed-end ends_part ls l y) ∙ map-append unrooted (closed ends_part ls) (open_piece ends_part ls ∷ [])
