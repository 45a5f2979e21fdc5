-- What the lexer keeps of the bytes read.
use Rattle.std.specs.Prelude.{◌≡◌, ℕ, ◌+◌, false, List, [], ◌∷◌, ◌++◌, length, Option, None, if◌then◌else◌}
use Rattle.mv_lex.specs.declared.parts.Place.{Place}
use Rattle.mv_lex.specs.declared.parts.Place.TheVariants.{Text, Backslash, Return, Comment}
use Rattle.mv_lex.specs.declared.lines.LexLine.{LexLine}
use Rattle.mv_lex.specs.declared.fault.LexFault.{LexFault}
use Rattle.mv_lex.specs.Words.{Cut, cut_of, has_long}
use Rattle.mv_lex.specs.Lines.{has_hash, tail_of, certain, unended, ended_lines, open_line, line_number, text_before, open_text, first_fault, complete}

-- the limit, how many bytes were read, the number of the open physical line and of the first one of
-- its joined line, where in the line the next byte stands, the words of the text so far, and the
-- fault that ended the reading
pub record Reading : Type 0 where
  pub limit : ℕ
  pub size : ℕ
  pub here : ℕ
  pub start : ℕ
  pub place : Place
  pub cut : Cut
  pub failed : Option LexFault

-- ---- the bytes behind which the lexer stands

-- where the next byte stands behind a line without a comment, by the `\` at its end
abbrev pub place_of_tail : List ℕ → Place
place_of_tail [] = Text
place_of_tail (_ ∷ []) = Backslash
place_of_tail (_ ∷ _ ∷ _) = Return

-- where the next byte stands behind this line
abbrev pub place_of : List ℕ → Place
place_of line = if has_hash line then Comment else place_of_tail (tail_of line)

-- the text of the joined line, as far as it is certain
abbrev pub text_behind : List ℕ → List ℕ
text_behind bytes = text_before bytes ++ certain (open_line bytes)

-- the lexer stands behind these bytes: each part of what it keeps is what the bytes say, no fault
-- was told at any of them, and it goes on
pub record IsAfter (r : Reading) (bytes : List ℕ) : Type 0 where
  pub size : r.size ≡ length bytes
  pub here : r.here ≡ line_number bytes
  pub start : r.start + length (unended (ended_lines bytes)) ≡ r.here
  pub place : r.place ≡ place_of (open_line bytes)
  pub cut : r.cut ≡ cut_of (text_behind bytes)
  pub short : has_long false (cut_of (open_text bytes)) ≡ false
  pub accepted : first_fault r.limit [] bytes ≡ None
  pub going : r.failed ≡ None

-- what was gained are the lines by which those complete before become all of these, behind
-- whichever bytes the lexer stands
pub record GainsLines (r : Reading) (before after : List LexLine) (all : List ℕ → List LexLine)
    : Type 0 where
  pub gained : List LexLine
  pub added : after ≡ before ++ gained
  pub adds_up : (bytes : List ℕ) → IsAfter r bytes → all bytes ≡ complete bytes ++ gained
