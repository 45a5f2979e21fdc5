-- What the command `encode` does to a network: it visits each net, and where one has three values
-- or more, nets of two values take its place, one for each bit of the codes of its values.
use Rattle.std.specs.Prelude.{◌≡◌, ℕ, zero, suc, ◌+◌, ◌<◌, ◌≤◌, ◌^◌, ◌==◌, Bool, true, false, is_some, Option, List, [], ◌∷◌, ◌++◌, length, map}
use Rattle.std.specs.Int.{bit_at}
use Rattle.std.specs.List.{range_with_len}
use Rattle.mv_base.specs.Names.{is_net_name}
use Rattle.mv_entry.specs.declared.fault.RuleFault.{RuleFault}
use Rattle.mv_entry.specs.declared.fault.RuleFault.TheVariants.{Wide, Nets as no_nets}
use Rattle.mv_entry.specs.declared.note.Note.TheVariants.{Dropped}
use Rattle.mv_entry.specs.declared.note.Why.{Why}
use Rattle.mv_entry.specs.declared.note.Why.TheVariants.{Lines, Nets, Varied}
use Rattle.mv_entry.specs.declared.rule.Code.{Code}
use Rattle.mv_entry.specs.declared.rule.Rule.{Rule}
use Rattle.mv_entry.specs.declared.rule.Rule.TheVariants.{Encode}
use Rattle.mv_entry.specs.Entries.{Entry, Applied, Noted}
use Rattle.mv_net.specs.declared.parts.FlatNet.{FlatNet}
use Rattle.mv_net.specs.declared.parts.NetParts.{NetParts}
use Rattle.mv_net.specs.Fresh.{IsFreshName}
use Rattle.mv_net.specs.Index.{is_seen}
use Rattle.mv_net.specs.Nets.{slot, name_in, table_in, values_in}
use Rattle.mv_net.specs.Plain.{IsPlainNet}
use Rattle.mv_pass.specs.Courses.{Course, Nothing, InTurn, Visits, VisitsAll, VisitsSome}
use Rattle.mv_rules.specs.Applies.{Applies, Fails}
use Rattle.mv_visit.specs.Visits.{IsNoted}

-- ---- the rule for a net

-- so many bits of a number, from the lowest on, the highest of them first
abbrev pub binary : ℕ → ℕ → List Bool
binary zero v = []
binary (suc k) v = (bit_at v k == 1) ∷ binary k v

-- the code of a value: the value itself in so many bits
abbrev pub code_of : ℕ → ℕ → Code
code_of bits v = record { bits = binary bits v }

-- the codes of so many values, ascending
unfoldable pub codes_of : ℕ → ℕ → List Code
codes_of bits values = map (code_of bits) (range_with_len 0 values)

-- so many bits are the fewest in which each of so many values has a code of its own
pub record AreFewest (values bits : ℕ) : Type 0 where
  pub enough : values ≤ 2 ^ bits
  pub fewest : (others : ℕ) → values ≤ 2 ^ others → bits ≤ others

-- names that no net has, in order: the first is the one behind so many
abbrev pub AreFreshFrom : List (Option FlatNet) → ℕ → List (List ℕ) → Type 0
AreFreshFrom nets skip [] = Unit {0}
AreFreshFrom nets skip (w ∷ ws) = IsFreshName nets skip w × AreFreshFrom nets (skip + 1) ws

-- names for the bits of the net n: as many as are fewest, and the first that no net has
pub record AreBitNames (net : NetParts) (n : ℕ) (names : List (List ℕ)) : Type 0 where
  pub few : AreFewest (values_in (slot net.nets n)) (length names)
  pub fresh : AreFreshFrom net.nets 0 names

-- the rule by which nets with these names take the place of the net n
abbrev pub rule_of : NetParts → ℕ → List (List ℕ) → Rule
rule_of net n names =
    Encode (name_in (slot net.nets n)) names
    (codes_of (length names) (values_in (slot net.nets n)))

-- ---- a visit

-- the net is to be encoded: it isn't seen, and has a table, and three values or more
pub record IsToEncode (net : NetParts) (n : ℕ) : Type 0 where
  pub unseen : is_seen net n ≡ false
  pub tabled : is_some (table_in (slot net.nets n)) ≡ true
  pub several : 2 < values_in (slot net.nets n)

-- the rule for the net n is refused, for this fault
pub record IsRefusedCoding (net : NetParts) (n : ℕ) (fault : RuleFault) : Type 0 where
  pub names : List (List ℕ)
  pub are : AreBitNames net n names
  pub fails : Fails false (rule_of net n names) net fault

-- why a net that is to be encoded stays: its table isn't plainly deterministic, or the rule is
-- refused since a reader's table would be too wide
abbrev pub StaysFor : NetParts → ℕ → Why → Type 0
StaysFor net n Varied = IsPlainNet net.nets n → ⊥
StaysFor net n Lines = IsRefusedCoding net n Wide
StaysFor net n _ = ⊥

-- a visit of the net n: it isn't to be encoded, and is let be; or it is, and it is noted why it
-- stays; or nets of two values take its place
pub data EncodesNet (n : ℕ) (old : NetParts) (entries : List Entry) (new : NetParts)
    : Type 0 where
  LetBe : (IsToEncode old n → ⊥) → Nothing old entries new → EncodesNet n old entries new
  Stays : (why : Why) → IsToEncode old n → StaysFor old n why → IsNoted n why old entries new
      → EncodesNet n old entries new
  Encoded : (names : List (List ℕ)) → IsToEncode old n → AreBitNames old n names
      → Applies false (rule_of old n names) old new
      → entries ≡ Applied (rule_of old n names) ∷ [] → EncodesNet n old entries new

-- ---- the command

-- the net n would be encoded, but the network has too few numbers left for its bits, the first of
-- which was to have this name, a lawful one
pub record IsFull (net : NetParts) (n : ℕ) (name : List ℕ) : Type 0 where
  pub to_encode : IsToEncode net n
  pub full : IsRefusedCoding net n no_nets
  pub fresh : IsFreshName net.nets 0 name
  pub lawful : is_net_name name ≡ true

-- at the net n the numbers run out, and the name of the first net that was to come is noted
pub record RunsOut (n : ℕ) (old : NetParts) (entries : List Entry) (new : NetParts)
    : Type 0 where
  pub name : List ℕ
  pub full : IsFull old n name
  pub entries_are : entries ≡ Noted (Dropped Nets name) ∷ []
  pub same : new ≡ old

-- the nets before one are visited, at which the numbers run out
pub record EndsEarly (old : NetParts) (entries : List Entry) (new : NetParts) : Type 0 where
  pub end : ℕ
  pub within : end < length old.nets
  pub course : InTurn (Visits EncodesNet end) (RunsOut end) old entries new

-- nets are visited, or some are and the numbers run out
pub data EndsBy (Visited : Course) (old : NetParts) (entries : List Entry) (new : NetParts)
    : Type 0 where
  Whole : Visited old entries new → EndsBy Visited old entries new
  Early : EndsEarly old entries new → EndsBy Visited old entries new

-- all of `encode`: each net is visited in turn, or those before one at which the numbers run out
abbrev pub EncodesAll : Course
EncodesAll = EndsBy (VisitsAll EncodesNet)

-- some of `encode`: the first so many nets are visited, or the numbers run out
abbrev pub EncodesSome : Course
EncodesSome = EndsBy (VisitsSome EncodesNet)

-- ---- the end

-- the last of the entries notes that the numbers run out
pub record IsCutShort (entries : List Entry) : Type 0 where
  pub front : List Entry
  pub name : List ℕ
  pub ends : entries ≡ front ++ Noted (Dropped Nets name) ∷ []
