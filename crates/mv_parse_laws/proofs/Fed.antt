-- A lexer that was fed bytes, piece by piece, and the lines that came of them.
use Rattle.std.proofs.Common.{◌≡◌, ℕ, List, [], ◌++◌, sym, ◌∙◌, refl}
use Rattle.mv_lex.specs.declared.lines.LexLine.{LexLine}
use Rattle.mv_lex.specs.Lines.{complete, lines_of}
use Rattle.mv_lex.specs.Reading.{Reading, IsAfter, GainsLines}
use Rattle.mv_lex.proofs.After.{gained_all}
use Rattle.mv_parse_laws.specs.Lines.{AreOfFile}

-- some bytes were fed, and the lines are those that they complete
pub record WasFed (r : Reading) (lines : List LexLine) : Type 0 where
  pub bytes : List ℕ
  pub stands : IsAfter r bytes
  pub lines_are : lines ≡ complete bytes

complete-nothing : complete [] ≡ []
unfolding complete
complete-nothing = refl

pub fed_nothing : (r : Reading) (lines : List LexLine) → IsAfter r [] → lines ≡ [] → WasFed r lines
fed_nothing r lines a e = record { bytes = []; stands = a; lines_are = e ∙ sym complete-nothing }

pub fed_more : (r s : Reading) (before after : List LexLine) (piece : List ℕ) → WasFed r before → ((bytes : List ℕ) → IsAfter r bytes → IsAfter s (bytes ++ piece)) → GainsLines r before after (λ bytes. complete (bytes ++ piece)) → WasFed s after
fed_more r s before after piece h stands gains =
    record {
      bytes = h.bytes ++ piece;
      stands = stands h.bytes h.stands;
      lines_are = gained_all r before after (λ bytes. complete (bytes ++ piece)) h.bytes gains h.stands h.lines_are;
    }

pub fed_all : (r : Reading) (before after : List LexLine) → WasFed r before → GainsLines r before after lines_of → AreOfFile after
fed_all r before after h gains = record { bytes = h.bytes; are = gained_all r before after lines_of h.bytes gains h.stands h.lines_are }
