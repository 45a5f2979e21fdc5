-- What a text says: the tokens of its parts, one part after the other.
use Rattle.std.specs.Prelude.{◌≡◌, ◌≤◌, ℕ, true, Option, Some, None, Ok, List, [], ◌∷◌, ◌++◌, map, codes, length}
use Rattle.std.specs.List.{list_all}
use Rattle.mv_base.specs.Names.{same_word}
use Rattle.mv_base.specs.declared.limits.TheConstants.{MAX_SCRIPT_BYTES, MAX_SCRIPT_COMMANDS, MAX_SCRIPT_BRACES}
use Rattle.mv_entry.specs.declared.note.Command.{Command}
use Rattle.mv_entry.specs.declared.note.Command.TheVariants.{Drop, Sweep, Eliminate, Collapse, Kernel, Cube, Simplify, Merge, Default, Determinize, Encode, Fill}
use Rattle.mv_script.specs.declared.part.Braces.TheVariants.{Repeat, Better}
use Rattle.mv_script.specs.declared.part.Part.{Part}
use Rattle.mv_script.specs.declared.part.PartKind.{PartKind}
use Rattle.mv_script.specs.declared.part.PartKind.TheVariants.{Do, Open, Close}
use Rattle.mv_script.specs.declared.token.Token.{Token}
use Rattle.mv_script.specs.Numbers.{number_from}
use Rattle.mv_script.specs.Parts.{parts_of, kinds}
use Rattle.mv_script.specs.Reading.{is_name}
use Rattle.mv_script.specs.Scripts.{Items, commands_in, deepest}
use Rattle.mv_script.specs.Texts.{is_readable, said, tokens_of}

-- ---- one part

-- the word says the number, which is one from the first to the second
abbrev pub SaysNumber : ℕ → ℕ → ℕ → List ℕ → Type 0
SaysNumber least most number word = number_from least most word ≡ Ok number

-- the words say the command
abbrev pub SaysCommand : Command → List (List ℕ) → Type 0
SaysCommand Drop words = words ≡ codes "drop" ∷ []
SaysCommand Sweep words = words ≡ codes "sweep" ∷ []
SaysCommand Eliminate words = words ≡ codes "eliminate" ∷ []
SaysCommand (Collapse net) words = (words ≡ codes "collapse" ∷ net ∷ []) × (is_name net ≡ true)
SaysCommand Kernel words = words ≡ codes "kernel" ∷ []
SaysCommand Cube words = words ≡ codes "cube" ∷ []
SaysCommand (Simplify down up) words =
    (v : List ℕ)
    × ((w : List ℕ)
    × ((words ≡ codes "simplify" ∷ v ∷ w ∷ []) × SaysNumber 0 8 down v × SaysNumber 0 8 up w))
SaysCommand Merge words = words ≡ codes "merge" ∷ []
SaysCommand Default words = words ≡ codes "default" ∷ []
SaysCommand Determinize words = words ≡ codes "determinize" ∷ []
SaysCommand Encode words = words ≡ codes "encode" ∷ []
SaysCommand Fill words = words ≡ codes "fill" ∷ []

-- the words say the part: a command, how an item with braces begins, or how it ends
abbrev pub SaysKind : PartKind → List (List ℕ) → Type 0
SaysKind (Do command) words = SaysCommand command words
SaysKind (Open (Repeat times)) words = (w : List ℕ)
    × ((words ≡ codes "repeat" ∷ w ∷ codes "{" ∷ []) × SaysNumber 1 1000 times w)
SaysKind (Open Better) words = words ≡ codes "better" ∷ codes "{" ∷ []
SaysKind Close words = words ≡ codes "}" ∷ []

-- the place of the first of these tokens
abbrev pub first_place : List Token → Option ℕ
first_place [] = None
first_place (t ∷ ts) = Some t.place

-- the tokens say the part, and it begins where they do
pub record SaysPart (part : Part) (own : List Token) : Type 0 where
  pub words : SaysKind part.kind (map (λ (t : Token). t.word) own)
  pub place : first_place own ≡ Some part.place

-- ---- all parts

-- the tokens are all `;`
abbrev pub AreSemicolons : List Token → Type 0
AreSemicolons ts = list_all (λ (t : Token). same_word t.word (codes ";")) ts ≡ true

-- the tokens say the parts, one after the other; `;` may stand before, between and behind them any
-- number of times
abbrev pub SayParts : List Part → List Token → Type 0
SayParts [] ts = AreSemicolons ts
SayParts (part ∷ parts) ts =
    (semicolons : List Token)
    × ((own : List Token)
    × ((others : List Token)
    × ((ts ≡ semicolons ++ (own ++ others)) × AreSemicolons semicolons × SaysPart part own
    × SayParts parts others)))

-- ---- scripts

-- a text is a script of these items: its bytes outside comments can be read, and its tokens say the
-- items' parts, one after the other; and it is within the limits
pub record IsScript (text : List ℕ) (items : Items) : Type 0 where
  pub short : length text ≤ MAX_SCRIPT_BYTES
  pub readable : is_readable text ≡ true
  pub parts : List Part
  pub said : SayParts parts (tokens_of (said text))
  pub are : kinds parts ≡ parts_of items
  pub shallow : deepest items ≤ MAX_SCRIPT_BRACES
  pub few : commands_in items ≤ MAX_SCRIPT_COMMANDS
