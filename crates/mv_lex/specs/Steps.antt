-- How one more byte changes what the lexer keeps. For private functions.
use Rattle.std.specs.Prelude.{◌≡◌, ℕ, ◌+◌, ◌≤◌, ◌<◌, Bool, true, false, not, ◌&&◌, ◌||◌, ◌==◌, nat_le, nat_lt}
use Rattle.std.specs.Prelude.{List, [], ◌∷◌, ◌++◌, length, Option, Some, None, if◌then◌else◌}
use Rattle.std.specs.List.{list_all}
use Rattle.mv_base.specs.Names.{is_visible}
use Rattle.mv_base.specs.declared.limits.TheConstants.{MAX_WORD_BYTES, MAX_BRACKETED_BYTES}
use Rattle.mv_lex.specs.declared.parts.Place.{Place}
use Rattle.mv_lex.specs.declared.parts.Place.TheVariants.{Text, Backslash, Return, Comment}
use Rattle.mv_lex.specs.declared.parts.Kind.{Kind}
use Rattle.mv_lex.specs.declared.parts.Kind.TheVariants.{Start, Plain, Bracketed}
use Rattle.mv_lex.specs.declared.lines.LexLine.{LexLine}
use Rattle.mv_lex.specs.declared.fault.LexFault.{LexFault}
use Rattle.mv_lex.specs.declared.fault.LexFault.TheVariants.{BadByte, LongWord, OpenBracket, TooLarge}
use Rattle.mv_lex.specs.Words.{is_blank, is_bang, opens, closer, Cut, no_words, nonempty, finished}
use Rattle.mv_lex.specs.Lines.{is_line_feed, is_hash, is_acceptable, line_at, complete}
use Rattle.mv_lex.specs.Reading.{Reading, IsAfter, GainsLines}

-- ---- one more byte of a text

-- the words behind a blank
abbrev pub ended_word : List (List ℕ) → List ℕ → Cut
ended_word words word = record { words = words ++ nonempty (word ∷ []); word = []; kind = Start }

-- one more byte, where the word at the end has nothing but `!`, or no byte
abbrev pub start_byte : List (List ℕ) → List ℕ → ℕ → Cut
start_byte words word b =
    if is_blank b then ended_word words word
    else if opens b then record {
      words = words;
      word = word ++ b
          ∷ [];
      kind = Bracketed (closer b);
    }
    else record { words = words; word = word ++ b ∷ []; kind = if is_bang b then Start else Plain }

-- one more byte, where the word at the end is a plain one
abbrev pub plain_byte : List (List ℕ) → List ℕ → ℕ → Cut
plain_byte words word b = if is_blank b then ended_word words word
    else record { words = words; word = word ++ b ∷ []; kind = Plain }

-- one more byte, where the word at the end is a bracketed one: a blank is dropped, and the bracket
-- `end` ends the word
abbrev pub bracketed_byte : List (List ℕ) → List ℕ → ℕ → ℕ → Cut
bracketed_byte words word end b =
    if is_blank b then record { words = words; word = word; kind = Bracketed end }
    else if b == end then ended_word words (word ++ b ∷ [])
    else record { words = words; word = word ++ b ∷ []; kind = Bracketed end }

-- one more byte, by what the word at the end is
abbrev pub kind_byte : List (List ℕ) → List ℕ → Kind → ℕ → Cut
kind_byte words word Start b = start_byte words word b
kind_byte words word Plain b = plain_byte words word b
kind_byte words word (Bracketed end) b = bracketed_byte words word end b

-- the cut of the text with one more byte
unfoldable pub with_byte : Cut → ℕ → Cut
with_byte cut b = kind_byte cut.words cut.word cut.kind b

-- the cut of the text with these bytes more
abbrev pub with_bytes : Cut → List ℕ → Cut
with_bytes cut [] = cut
with_bytes cut (b ∷ bs) = with_bytes (with_byte cut b) bs

-- with one more byte a word of this size and kind is past its limit
abbrev pub kind_long : ℕ → Kind → ℕ → Bool
kind_long size Start b =
    if is_blank b then nat_lt MAX_WORD_BYTES size
    else nat_le (if opens b || is_bang b then MAX_BRACKETED_BYTES else MAX_WORD_BYTES) size
kind_long size Plain b = not (is_blank b) && nat_le MAX_WORD_BYTES size
kind_long size (Bracketed _) b = not (is_blank b) && nat_le MAX_BRACKETED_BYTES size

-- with one more byte the word at the end of the text is past its limit
unfoldable pub long_with : Cut → ℕ → Bool
long_with cut b = kind_long (length cut.word) cut.kind b

-- with some of these bytes the word at the end of the text is past its limit
abbrev pub long_with_bytes : Cut → List ℕ → Bool
long_with_bytes cut [] = false
long_with_bytes cut (b ∷ bs) = long_with cut b || long_with_bytes (with_byte cut b) bs

-- the fault where a text ends at a word of this size and kind, which isn't too long while the text
-- goes on
abbrev pub kind_end_fault : ℕ → ℕ → Kind → Option LexFault
kind_end_fault line size Start = if nat_lt MAX_WORD_BYTES size then Some (LongWord line) else None
kind_end_fault line size Plain = None
kind_end_fault line size (Bracketed _) = Some (OpenBracket line)

-- the fault at the end of a text whose words aren't too long while it goes on
unfoldable pub end_fault_of : ℕ → Cut → Option LexFault
end_fault_of line cut = kind_end_fault line (length cut.word) cut.kind

-- ---- one more byte of a file

-- the bytes that are held back at this place: they are of the text only if no line feed comes next
abbrev pub held : Place → List ℕ
held Text = []
held Backslash = 92 ∷ []
held Return = 92 ∷ 13 ∷ []
held Comment = []

-- the next byte stands right behind a `\`
abbrev pub is_backslash : Place → Bool
is_backslash Backslash = true
is_backslash _ = false

-- the text with the bytes that were held back, and with one more
unfoldable pub settled : Reading → Cut
settled r = with_bytes r.cut (held r.place)

-- a word is too long
abbrev pub long_fault : ℕ → Bool → Option LexFault
long_fault line long = if long then Some (LongWord line) else None

-- the fault of a byte that is no line feed, outside a comment. A `\` ends a run of `!` as a blank
-- does, whatever it becomes
unfoldable pub text_fault : Reading → ℕ → Option LexFault
text_fault r b =
    if not (is_acceptable b) then Some (BadByte r.here b)
    else if (b == 13) && is_backslash r.place then None
    else if long_with_bytes r.cut (held r.place) then Some (LongWord r.here)
    else if is_hash b then end_fault_of r.here (settled r)
    else long_fault r.here (long_with (settled r) (if b == 92 then 32 else b))

-- the fault of a byte, by where it stands
abbrev pub place_fault : Reading → Place → ℕ → Option LexFault
place_fault r Text b = if is_line_feed b then end_fault_of r.here r.cut else text_fault r b
place_fault r Backslash b = if is_line_feed b then None else text_fault r b
place_fault r Return b = if is_line_feed b then None else text_fault r b
place_fault r Comment b = None

-- the fault of the byte that comes
unfoldable pub fault_now : Reading → ℕ → Option LexFault
fault_now r b = if nat_le r.limit r.size then Some (TooLarge r.here) else place_fault r r.place b

-- what is kept behind a byte that is no line feed, outside a comment
unfoldable pub text_step : Reading → ℕ → Reading
text_step r b =
    if (b == 13) && is_backslash r.place then record r { size = r.size + 1; place = Return }
    else if is_hash b then record r { size = r.size + 1; place = Comment; cut = settled r }
    else if b == 92 then record r { size = r.size + 1; place = Backslash; cut = settled r }
    else record r { size = r.size + 1; place = Text; cut = with_byte (settled r) b }

-- what is kept behind a line feed that ends the joined line
abbrev pub new_line : Reading → Reading
new_line r =
    record r {
      size = r.size + 1;
      here = r.here + 1;
      start = r.here + 1;
      place = Text;
      cut = no_words;
    }

-- what is kept behind a line feed that joins the next line to this one: it counts as a blank
abbrev pub next_line : Reading → Reading
next_line r =
    record r { size = r.size + 1; here = r.here + 1; place = Text; cut = with_byte r.cut 32 }

-- what is kept behind a byte, by where it stands
abbrev pub place_step : Reading → Place → ℕ → Reading
place_step r Text b = if is_line_feed b then new_line r else text_step r b
place_step r Backslash b = if is_line_feed b then next_line r else text_step r b
place_step r Return b = if is_line_feed b then next_line r else text_step r b
place_step r Comment b = if is_line_feed b then new_line r else record r { size = r.size + 1 }

-- what is kept behind the byte that comes
unfoldable pub stepped : Reading → ℕ → Reading
stepped r b = place_step r r.place b

-- a line feed there ends the joined line
abbrev pub ends_line : Place → Bool
ends_line Text = true
ends_line Backslash = false
ends_line Return = false
ends_line Comment = true

-- the line that the byte ends
unfoldable pub ended : Reading → ℕ → List LexLine
ended r b = if is_line_feed b && ends_line r.place then line_at r.start (finished r.cut) else []

-- ---- many letters at once

-- an ordinary byte of a word, wherever it stands in it but at its front
abbrev pub is_letter : ℕ → Bool
is_letter b = is_visible b && not (is_hash b) && not (b == 92)

-- these bytes are letters of the word at the end of the text, within its limit and that of the file
pub record TakesLetters (r : Reading) (letters : List ℕ) : Type 0 where
  pub place : r.place ≡ Text
  pub kind : r.cut.kind ≡ Plain
  pub all : list_all is_letter letters ≡ true
  pub short : length r.cut.word + length letters ≤ MAX_WORD_BYTES
  pub within : r.size + length letters ≤ r.limit

-- what is kept behind them
abbrev pub with_letters : Reading → List ℕ → Reading
with_letters r letters =
    record r { size = r.size + length letters; cut = record r.cut { word = r.cut.word ++ letters } }

-- ---- a whole word at once

-- a word that begins with these bytes is a plain one from its first byte on
abbrev pub begins_plain : List ℕ → Bool
begins_plain [] = false
begins_plain (b ∷ _) = not (opens b) && not (is_bang b)

-- a byte that ends a plain word: a blank or a line feed
abbrev pub ends_plain : ℕ → Bool
ends_plain b = is_line_feed b || is_blank b

-- these bytes are a plain word between words, within its limit, and with one byte more within the
-- limit of the file
pub record TakesWord (r : Reading) (word : List ℕ) : Type 0 where
  pub place : r.place ≡ Text
  pub kind : r.cut.kind ≡ Start
  pub none : r.cut.word ≡ []
  pub begins : begins_plain word ≡ true
  pub all : list_all is_letter word ≡ true
  pub short : length word ≤ MAX_WORD_BYTES
  pub within : r.size + length word < r.limit

-- what is kept behind it, where it has ended
abbrev pub with_whole : Reading → List ℕ → Reading
with_whole r word = record r { size = r.size + length word; cut = ended_word r.cut.words word }

-- ---- words of one byte at once

-- these bytes begin with a plain word of one byte and the space behind it
abbrev pub begins_one : List ℕ → Bool
begins_one (b ∷ end ∷ _) = (end == 32) && begins_plain (b ∷ []) && is_letter b
begins_one _ = false

-- the bytes read end between two words, and these, which come next, stand within the limit of the
-- file
pub record IsBetween (r : Reading) (bytes : List ℕ) : Type 0 where
  pub place : r.place ≡ Text
  pub kind : r.cut.kind ≡ Start
  pub none : r.cut.word ≡ []
  pub within : r.size + length bytes ≤ r.limit

-- ---- the end of the bytes

-- what a `\` at the end of the line adds to the text where the line ends there: a blank
abbrev pub blank_at : Place → List ℕ
blank_at Text = []
blank_at Backslash = 32 ∷ []
blank_at Return = 32 ∷ []
blank_at Comment = []

-- the next byte stands in a comment
abbrev pub is_comment : Place → Bool
is_comment Comment = true
is_comment _ = false

-- the words of the text where the bytes end
unfoldable pub end_cut : Reading → Cut
end_cut r = with_bytes r.cut (blank_at r.place)

-- the fault told where the bytes end
unfoldable pub end_now : Reading → Option LexFault
end_now r = if is_comment r.place then None
    else end_fault_of r.here (with_bytes r.cut (blank_at r.place))

-- ---- many bytes

-- between two states of the lexer and of the lines these bytes were read: behind whichever bytes it
-- stood, it now stands behind those and these, and the lines that ended on the way were gained
pub record HasRead (start now : Reading) (before later : List LexLine) (piece : List ℕ)
    : Type 0 where
  pub after : (bytes : List ℕ) → IsAfter start bytes → IsAfter now (bytes ++ piece)
  pub lines : GainsLines start before later (λ bytes. complete (bytes ++ piece))
  pub limit : now.limit ≡ start.limit
