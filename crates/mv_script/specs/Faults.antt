-- The first fault of a text.
use Rattle.std.specs.Prelude.{◌≡◌, ◌≤◌, ◌<◌, ℕ, if◌then◌else◌, nat_le, Option, Some, None, Result, Ok, Err, List, [], ◌∷◌, ◌++◌, length, position, codes, decimal}
use Rattle.mv_base.specs.declared.limits.TheConstants.{MAX_SCRIPT_BYTES}
use Rattle.mv_script.specs.declared.fault.FaultKind.{FaultKind}
use Rattle.mv_script.specs.declared.fault.FaultKind.TheVariants.{UnknownWord, Missing, NumberRange, Brace, TooLong, TooMany, TooDeep}
use Rattle.mv_script.specs.declared.fault.TextFault.{TextFault}
use Rattle.mv_script.specs.declared.part.Part.{Part}
use Rattle.mv_script.specs.Parts.{parts_of, kinds, outermost}
use Rattle.mv_script.specs.Reading.{fault, parts_from, at_start}
use Rattle.mv_script.specs.Scripts.{Items, item_counts, passing}
use Rattle.mv_script.specs.Texts.{is_strange, said, tokens_of}

-- the parts of the tokens, or the first fault of bytes and tokens: the one that comes first, and of
-- two at one place the byte's, which has the lowest number
abbrev pub earlier : Option ℕ → Result (List Part) TextFault → Result (List Part) TextFault
earlier None told = told
earlier (Some p) (Ok parts) = Err (fault UnknownWord p)
earlier (Some p) (Err f) = Err (if nat_le p f.place then fault UnknownWord p else f)

-- the parts of what is said, or the first fault that its bytes and its tokens tell
unfoldable pub parts_in : List ℕ → Result (List Part) TextFault
parts_in said =
    earlier (position is_strange said) (parts_from (length said) (tokens_of said) at_start)

-- with the item at the place the commands first pass the limit
pub record PassesAt (parts : List Part) (place : ℕ) : Type 0 where
  pub items : Items
  pub are : kinds parts ≡ parts_of items
  pub passes : passing 0 (item_counts items) (outermost parts 0) ≡ Some place

-- what the first fault is, by the parts of the text: too many commands come behind all others
abbrev pub IsFaultOf : Result (List Part) TextFault → TextFault → Type 0
IsFaultOf (Err g) f = f ≡ g
IsFaultOf (Ok parts) f = (f.kind ≡ TooMany) × PassesAt parts f.place

-- the first fault of a text: that it is too long comes before all others
pub data IsFirstFault (text : List ℕ) (f : TextFault) : Type 0 where
  Long : (long : MAX_SCRIPT_BYTES < length text) → (is : f ≡ fault TooLong MAX_SCRIPT_BYTES)
      → IsFirstFault text f
  Within : (short : length text ≤ MAX_SCRIPT_BYTES) → (is : IsFaultOf (parts_in (said text)) f)
      → IsFirstFault text f

-- ---- the line of a fault

-- the words of a fault's line before its place: its number and its name
abbrev pub kind_words : FaultKind → List ℕ
kind_words UnknownWord = codes "# fault script 1 UnknownWord "
kind_words Missing = codes "# fault script 2 Missing "
kind_words NumberRange = codes "# fault script 3 NumberRange "
kind_words Brace = codes "# fault script 4 Brace "
kind_words TooLong = codes "# fault script 5 TooLong "
kind_words TooMany = codes "# fault script 6 TooMany "
kind_words TooDeep = codes "# fault script 7 TooDeep "

-- the line of a fault
abbrev pub fault_line : TextFault → List ℕ
fault_line f = kind_words f.kind ++ decimal f.place ++ 10 ∷ []
