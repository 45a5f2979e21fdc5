-- The lines of a file and the first fault of its bytes, said of the whole list of bytes: the lines
-- of BLIF-MV after its description by Kukimoto, with this program's profile.
use Rattle.std.specs.Prelude.{◌≡◌, ◌⊎◌, ℕ, ◌+◌, Bool, true, false, not, ◌&&◌, ◌||◌, ◌==◌, nat_le}
use Rattle.std.specs.Prelude.{List, [], ◌∷◌, ◌++◌, length, Option, Some, None, if◌then◌else◌}
use Rattle.std.specs.List.{list_all, list_any, flat_map, slice_split}
use Rattle.std.specs.Option.{option_or}
use Rattle.mv_base.specs.Names.{is_visible}
use Rattle.mv_lex.specs.declared.lines.LexLine.{LexLine}
use Rattle.mv_lex.specs.declared.fault.LexFault.{LexFault}
use Rattle.mv_lex.specs.declared.fault.LexFault.TheVariants.{BadByte, LongWord, OpenBracket, TooLarge, Memory}
use Rattle.mv_lex.specs.Cuts.{closed, open_piece}
use Rattle.mv_lex.specs.Words.{is_blank, front, Cut, cut_of, finished, is_long, has_long, waits}

-- ---- physical lines: the bytes are cut at each line feed, so n of them make n + 1 physical lines

-- a line feed, which ends a physical line
abbrev pub is_line_feed : ℕ → Bool
is_line_feed b = b == 10

-- the physical lines that have ended
abbrev pub ended_lines : List ℕ → List (List ℕ)
ended_lines bytes = closed is_line_feed bytes

-- the physical line that is still open: the bytes behind the last line feed
abbrev pub open_line : List ℕ → List ℕ
open_line bytes = open_piece is_line_feed bytes

-- ---- comments and joined lines

-- a `#`, which begins a comment wherever it stands, up to the end of the physical line
abbrev pub is_hash : ℕ → Bool
is_hash b = b == 35

-- the line has a comment
abbrev pub has_hash : List ℕ → Bool
has_hash line = list_any is_hash line

-- the bytes before the comment of a line: all of them where it has none
abbrev pub before_hash : List ℕ → List ℕ
before_hash line = front (λ b. not (is_hash b)) line

-- nothing is left of the line but a carriage return, which is dropped at its end
abbrev pub is_line_end : List ℕ → Bool
is_line_end [] = true
is_line_end (b ∷ []) = b == 13
is_line_end (_ ∷ _ ∷ _) = false

-- the `\` at the end of the line, with the carriage return behind it if there is one; nothing where
-- there is no such `\`. (Any other carriage return at the end of a line would be dropped. Taken as
-- a blank it gives the same words.)
abbrev pub tail_of : List ℕ → List ℕ
tail_of [] = []
tail_of (b ∷ line) = if (b == 92) && is_line_end line then b ∷ line else tail_of line

-- the bytes before that `\`: all of them where there is none
abbrev pub before_tail : List ℕ → List ℕ
before_tail [] = []
before_tail (b ∷ line) = if (b == 92) && is_line_end line then [] else b ∷ before_tail line

-- a list without bytes
abbrev pub is_empty : List ℕ → Bool
is_empty [] = true
is_empty (_ ∷ _) = false

-- a line without a comment that ends in `\` joins the next line to this one
abbrev pub joins : List ℕ → Bool
joins line = not (has_hash line) && not (is_empty (tail_of line))

-- what is certain of a line that may go on: a `\` at its end is a byte of a word only if more comes
-- behind it
abbrev pub certain : List ℕ → List ℕ
certain line = if has_hash line then before_hash line else before_tail line

-- the text of a physical line: a `\` at its end counts as a blank
abbrev pub text_of : List ℕ → List ℕ
text_of line = certain line ++ (if joins line then 32 ∷ [] else [])

-- the text of physical lines that are joined
abbrev pub texts : List (List ℕ) → List ℕ
texts lines = flat_map text_of lines

-- the line put in front of the first group, if there is one
abbrev pub onto_group : List ℕ → List (List (List ℕ)) → List (List (List ℕ))
onto_group line [] = []
onto_group line (group ∷ groups) = (line ∷ group) ∷ groups

-- the joined lines that have ended, each as its physical lines
abbrev pub joined : List (List ℕ) → List (List (List ℕ))
joined [] = []
joined (line ∷ lines) = if joins line then onto_group line (joined lines)
    else (line ∷ []) ∷ joined lines

-- the line put in front of the unended ones, if no joined line that has ended stands before them
abbrev pub with_line : List (List (List ℕ)) → List ℕ → List (List ℕ) → List (List ℕ)
with_line [] line lines = line ∷ lines
with_line (_ ∷ _) line lines = lines

-- the physical lines behind the joined lines that have ended: they are joined to what comes
abbrev pub unended : List (List ℕ) → List (List ℕ)
unended [] = []
unended (line ∷ lines) = if joins line then with_line (joined lines) line (unended lines)
    else unended lines

-- ---- lines of words

-- the words of a text
abbrev pub words_of : List ℕ → List (List ℕ)
words_of text = finished (cut_of text)

-- the line with this number and these words; a line without words is left out
abbrev pub line_at : ℕ → List (List ℕ) → List LexLine
line_at number [] = []
line_at number (w ∷ ws) = record { number = number; words = w ∷ ws } ∷ []

-- the lines of these joined lines: each has the number of its first physical line, the first one
-- this number
abbrev pub numbered : ℕ → List (List (List ℕ)) → List LexLine
numbered number [] = []
numbered number (group ∷ groups) = line_at number (words_of (texts group))
    ++ numbered (number + length group) groups

-- the joined lines of physical lines, the last of which is the end of the file
abbrev pub all_joined : List (List ℕ) → List (List (List ℕ))
all_joined lines = joined lines ++ unended lines ∷ []

-- all lines of a file
unfoldable pub lines_of : List ℕ → List LexLine
lines_of bytes = numbered 1 (all_joined (slice_split is_line_feed bytes))

-- the lines of a file that a line feed has ended
unfoldable pub complete : List ℕ → List LexLine
complete bytes = numbered 1 (joined (ended_lines bytes))

-- ---- what the grammar asks of the bytes, without the limits

-- a byte that may stand outside a comment
abbrev pub is_acceptable : ℕ → Bool
is_acceptable b = is_line_feed b || is_blank b || is_visible b

-- a physical line has no other byte before its comment
abbrev pub is_readable : List ℕ → Bool
is_readable line = list_all is_acceptable (before_hash line)

-- a joined line ends outside brackets
abbrev pub is_closed : List (List ℕ) → Bool
is_closed group = not (waits (cut_of (texts group)).kind)

-- the bytes are accepted: each physical line is readable, and each joined line is closed
unfoldable pub is_clean : List ℕ → Bool
is_clean bytes = list_all is_readable (slice_split is_line_feed bytes)
    && list_all is_closed (all_joined (slice_split is_line_feed bytes))

-- ---- the limits

-- a word of the line is past its limit
abbrev pub has_long_word : LexLine → Bool
has_long_word line = list_any is_long line.words

-- a file has at most so many bytes, and no word of its lines is past its limit
unfoldable pub is_within : ℕ → List ℕ → Bool
is_within limit bytes = nat_le (length bytes) limit && not (list_any has_long_word (lines_of bytes))

-- ---- the first fault, limits among them

-- the number of the physical line on which the byte behind these stands
abbrev pub line_number : List ℕ → ℕ
line_number seen = length (ended_lines seen) + 1

-- the byte behind these stands in a comment
abbrev pub in_comment : List ℕ → Bool
in_comment seen = has_hash (open_line seen)

-- the text of the physical lines to which the open one is joined
abbrev pub text_before : List ℕ → List ℕ
text_before seen = texts (unended (ended_lines seen))

-- the text of the joined line that is open: a `\` at its end counts as a blank
abbrev pub open_text : List ℕ → List ℕ
open_text bytes = text_before bytes ++ text_of (open_line bytes)

-- the text that tells the faults at this byte. A `\` at its end may still become a byte of a word,
-- but as such it ends a run of `!` as a blank does: there is no bracketed word
abbrev pub text_with : List ℕ → ℕ → List ℕ
text_with seen b = open_text (if is_line_feed b then seen else seen ++ b ∷ [])

-- the text of the joined line ends at this byte: with the line, or where a comment begins
abbrev pub ends_with_byte : List ℕ → ℕ → Bool
ends_with_byte seen b = is_hash b || (is_line_feed b && not (joins (open_line seen)))

-- the fault of a text that ends here or goes on, cut into words: a word past its limit, or a
-- bracket left open
abbrev pub words_fault : ℕ → Bool → Cut → Option LexFault
words_fault line ended cut =
    if has_long ended cut then Some (LongWord line)
    else if ended && waits cut.kind then Some (OpenBracket line)
    else None

-- the fault told at a byte, by the bytes that stand before it. In a comment every byte is accepted
unfoldable pub fault_at : ℕ → List ℕ → ℕ → Option LexFault
fault_at limit seen b =
    if nat_le limit (length seen) then Some (TooLarge (line_number seen))
    else if in_comment seen then None
    else if not (is_acceptable b) then Some (BadByte (line_number seen) b)
    else words_fault (line_number seen) (ends_with_byte seen b) (cut_of (text_with seen b))

-- the first fault of the bytes behind those seen
abbrev pub first_fault : ℕ → List ℕ → List ℕ → Option LexFault
first_fault limit seen [] = None
first_fault limit seen (b ∷ bytes) =
    option_or (fault_at limit seen b) (first_fault limit (seen ++ b ∷ []) bytes)

-- the fault told at the end of the bytes
unfoldable pub end_fault : List ℕ → Option LexFault
end_fault bytes =
    if in_comment bytes then None
    else words_fault (line_number bytes) true (cut_of (open_text bytes))

-- the first fault of a file
abbrev pub lex_fault : ℕ → List ℕ → Option LexFault
lex_fault limit bytes = option_or (first_fault limit [] bytes) (end_fault bytes)

-- why a call fails: for want of memory, or for this fault
abbrev pub IsTold : Option LexFault → LexFault → Type 0
IsTold fault f = (f ≡ Memory) ⊎ (fault ≡ Some f)
