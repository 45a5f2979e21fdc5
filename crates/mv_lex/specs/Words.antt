-- The words of a text, which is a joined line without its comments, its line feeds and its `\` at
-- the ends of lines.
use Rattle.std.specs.Prelude.{ℕ, Bool, true, false, not, ◌||◌, ◌==◌, nat_lt, List, [], ◌∷◌, ◌++◌, length, filter, suc, zero, if◌then◌else◌}
use Rattle.std.specs.List.{list_any}
use Rattle.mv_base.specs.Names.{is_bracketed}
use Rattle.mv_base.specs.declared.limits.TheConstants.{MAX_WORD_BYTES, MAX_BRACKETED_BYTES}
use Rattle.mv_lex.specs.declared.parts.Kind.{Kind}
use Rattle.mv_lex.specs.declared.parts.Kind.TheVariants.{Start, Plain, Bracketed}

-- a space, a tab or a carriage return parts words
abbrev pub is_blank : ℕ → Bool
is_blank b = (b == 32) || (b == 9) || (b == 13)

-- any other byte: it goes on with a word
abbrev pub is_solid : ℕ → Bool
is_solid b = not (is_blank b)

-- a `!`
abbrev pub is_bang : ℕ → Bool
is_bang b = b == 33

-- a bracket that begins a bracketed word: `(` or `{`
abbrev pub opens : ℕ → Bool
opens b = (b == 40) || (b == 123)

-- the bracket that ends what this one begins: `)` for `(`, and `}` for `{`
abbrev pub closer : ℕ → ℕ
closer b = if b == 40 then 41 else 125

-- the bytes at the front that pass a test
abbrev pub front : (ℕ → Bool) → List ℕ → List ℕ
front p [] = []
front p (b ∷ bs) = if p b then b ∷ front p bs else []

-- the bytes from the first one on that doesn't pass a test
abbrev pub behind : (ℕ → Bool) → List ℕ → List ℕ
behind p [] = []
behind p (b ∷ bs) = if p b then behind p bs else b ∷ bs

-- a text cut into words: those that have ended, the one at its end, which may go on, and what that
-- one is
pub record Cut : Type 0 where
  pub words : List (List ℕ)
  pub word : List ℕ
  pub kind : Kind

-- nothing is cut yet
abbrev pub no_words : Cut
no_words = record { words = []; word = []; kind = Start }

-- a text that begins with a word, of which `cut` is the rest
abbrev pub with_word : List ℕ → Cut → Cut
with_word w cut = record cut { words = w ∷ cut.words }

-- a bracketed word where `text` begins at the byte that ends it, or has no byte. `word` is the word
-- but for that byte
abbrev pub bracketed_behind : (List ℕ → Cut) → ℕ → List ℕ → List ℕ → Cut
bracketed_behind rest end word [] = record { words = []; word = word; kind = Bracketed end }
bracketed_behind rest end word (b ∷ text) = with_word (word ++ b ∷ []) (rest text)

-- a text that begins with a bracketed word: it runs to the first byte that ends it, its blanks are
-- dropped, and the next word begins right behind it
abbrev pub bracketed : (List ℕ → Cut) → ℕ → List ℕ → List ℕ → Cut
bracketed rest end head text =
    bracketed_behind rest end (head ++ filter is_solid (front (λ b. not (b == end)) text))
    (behind (λ b. not (b == end)) text)

-- any other word, where `text` begins at the blank behind it, or has no byte
abbrev pub plain_behind : (List ℕ → Cut) → List ℕ → List ℕ → Cut
plain_behind rest word [] = record { words = []; word = word; kind = Plain }
plain_behind rest word (b ∷ text) = with_word word (rest text)

-- a text that begins with any other word: it runs to the next blank
abbrev pub plain : (List ℕ → Cut) → List ℕ → List ℕ → Cut
plain rest head text = plain_behind rest (head ++ front is_solid text) (behind is_solid text)

-- a text whose first word begins with these `!`: with a bracket behind them it is a bracketed word
abbrev pub cut_first : (List ℕ → Cut) → List ℕ → List ℕ → Cut
cut_first rest bangs [] = record { words = []; word = bangs; kind = Start }
cut_first rest bangs (b ∷ text) = if opens b then bracketed rest (closer b) (bangs ++ b ∷ []) text
    else plain rest bangs (b ∷ text)

-- a text of at most this many bytes: its blanks are passed over, then comes its first word, then
-- the rest
abbrev pub cut_words : ℕ → List ℕ → Cut
cut_words zero text = no_words
cut_words (suc n) text =
    cut_first (cut_words n) (front is_bang (behind is_blank text))
    (behind is_bang (behind is_blank text))

-- a text cut into words
unfoldable pub cut_of : List ℕ → Cut
cut_of text = cut_words (length text) text

-- the words that have a byte
abbrev pub nonempty : List (List ℕ) → List (List ℕ)
nonempty words = filter (λ w. not (length w == 0)) words

-- all words, if the text ends here
abbrev pub finished : Cut → List (List ℕ)
finished cut = cut.words ++ nonempty (cut.word ∷ [])

-- a word past its limit
abbrev pub is_long : List ℕ → Bool
is_long w = nat_lt (if is_bracketed w then MAX_BRACKETED_BYTES else MAX_WORD_BYTES) (length w)

-- the limit of the word at the end: one of nothing but `!` may become a bracketed word while its
-- line goes on
abbrev pub most_bytes : Bool → Kind → ℕ
most_bytes ended Start = if ended then MAX_WORD_BYTES else MAX_BRACKETED_BYTES
most_bytes ended Plain = MAX_WORD_BYTES
most_bytes ended (Bracketed _) = MAX_BRACKETED_BYTES

-- some word of a line, which ends here or goes on, is past its limit
abbrev pub has_long : Bool → Cut → Bool
has_long ended cut = list_any is_long cut.words
    || nat_lt (most_bytes ended cut.kind) (length cut.word)

-- the word at the end waits for its bracket
abbrev pub waits : Kind → Bool
waits Start = false
waits Plain = false
waits (Bracketed _) = true
