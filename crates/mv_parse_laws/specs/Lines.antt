-- Lines, their numbers, and whether they are those of a file.
use Rattle.std.specs.Prelude.{◌≡◌, ℕ, List, map}
use Rattle.mv_lex.specs.declared.lines.LexLine.{LexLine}
use Rattle.mv_lex.specs.Lines.{lines_of}

-- the numbers of these lines, in order
abbrev pub numbers_of : List LexLine → List ℕ
numbers_of lines = map (λ l. l.number) lines

-- the lines of some file
pub record AreOfFile (lines : List LexLine) : Type 0 where
  pub bytes : List ℕ
  pub are : lines ≡ lines_of bytes
