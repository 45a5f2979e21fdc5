-- The text of a script: its bytes, its comments and its tokens.
use Rattle.std.specs.Prelude.{ℕ, ◌-◌, Bool, false, not, ◌&&◌, ◌||◌, ◌==◌, if◌then◌else◌, List, [], ◌∷◌, length, take, drop, take_while, slice_index, flat_map}
use Rattle.std.specs.List.{list_all, range_with_len}
use Rattle.mv_base.specs.Names.{is_visible}
use Rattle.mv_script.specs.declared.token.Token.{Token}

-- a blank: a space, a tab, a carriage return or a line feed
abbrev pub is_blank : ℕ → Bool
is_blank b = (b == 32) || (b == 9) || (b == 13) || (b == 10)

-- a mark, which is a token of its own wherever it stands: `;`, `{` or `}`
abbrev pub is_mark : ℕ → Bool
is_mark b = (b == 59) || (b == 123) || (b == 125)

-- a byte of a word: any other one
abbrev pub is_letter : ℕ → Bool
is_letter b = not (is_blank b || is_mark b)

-- a byte that has no place outside comments: neither a blank nor one that can be seen
abbrev pub is_strange : ℕ → Bool
is_strange b = not (is_blank b || is_visible b)

-- ---- comments

-- a byte stands in a comment where the byte before it does, or where it is a `#`, but for the end
-- of the line
abbrev pub in_comment : Bool → ℕ → Bool
in_comment before b = (before || b == 35) && not (b == 10)

-- a byte as it is said: one of a comment is a blank
abbrev pub byte_said : Bool → ℕ → ℕ
byte_said comment b = if comment then 32 else b

-- bytes as they are said, behind a byte that stands in a comment or doesn't
abbrev pub said_behind : Bool → List ℕ → List ℕ
said_behind before [] = []
said_behind before (b ∷ bs) = byte_said (in_comment before b) b
    ∷ said_behind (in_comment before b) bs

-- the text with a blank in place of each byte of a comment: what is left stands where it stood
unfoldable pub said : List ℕ → List ℕ
said text = said_behind false text

-- each byte outside comments is a blank or can be seen
abbrev pub is_readable : List ℕ → Bool
is_readable text = list_all (λ b. not (is_strange b)) (said text)

-- ---- tokens

-- a token begins at this place: a mark, or a letter that no letter stands before
abbrev pub begins : List ℕ → ℕ → Bool
begins said p =
    is_mark (slice_index said p)
    || is_letter (slice_index said p)
    && ((p == 0) || not (is_letter (slice_index said (p - 1))))

-- the bytes of the token that begins at this place: the mark, or the longest run of letters
abbrev pub word_at : List ℕ → ℕ → List ℕ
word_at said p = if is_mark (slice_index said p) then take 1 (drop p said)
    else take_while is_letter (drop p said)

-- the token that begins at this place, if one does
abbrev pub token_at : List ℕ → ℕ → List Token
token_at said p = if begins said p then record { place = p; word = word_at said p } ∷ [] else []

-- the tokens of what is said, in order
unfoldable pub tokens_of : List ℕ → List Token
tokens_of said = flat_map (λ p. token_at said p) (range_with_len 0 (length said))
