-- Visits of nets by a command that goes over all of them: what it may make of a net's table in the
-- window of the net alone.
use Rattle.std.specs.Prelude.{◌≡◌, ℕ, true, false, is_some, Some, [], ◌∷◌, Option, List, Contains}
use Rattle.mv_body.specs.Bodies.{cover_said}
use Rattle.mv_cover.specs.declared.cover.Cover.{Cover}
use Rattle.mv_entry.specs.declared.note.Note.TheVariants.{Dropped}
use Rattle.mv_entry.specs.declared.note.Why.{Why}
use Rattle.mv_entry.specs.declared.note.Why.TheVariants.{Window as IsWide}
use Rattle.mv_entry.specs.declared.rule.Body.{Body}
use Rattle.mv_entry.specs.declared.rule.Rule.{Rule}
use Rattle.mv_entry.specs.declared.rule.Rule.TheVariants.{Narrow}
use Rattle.mv_entry.specs.Entries.{Entry, Applied, Noted}
use Rattle.mv_flex.specs.Flex.{TooWide}
use Rattle.mv_meaning.specs.Narrowing.{ReadsWithin}
use Rattle.mv_narrow.specs.Verdicts.{AllowsLess, HasWindow}
use Rattle.mv_net.specs.declared.parts.FlatNet.{FlatNet}
use Rattle.mv_net.specs.declared.parts.NetParts.{NetParts}
use Rattle.mv_net.specs.Formed.{IsCover}
use Rattle.mv_net.specs.Nets.{slot, values_in, name_in, table_in}
use Rattle.mv_pass.specs.Courses.{Course, Nothing}
use Rattle.mv_rules.specs.Applies.{Applies}

-- ---- what a visit leaves

-- the note why the net n stays
abbrev pub note_of : NetParts → ℕ → Why → Entry
note_of net n why = Noted (Dropped why (name_in (slot net.nets n)))

-- it is noted among the entries why the net n stays
pub record HasNote (net : NetParts) (n : ℕ) (entries : List Entry) : Type 0 where
  pub why : Why
  pub noted : Contains entries (note_of net n why)

-- the rule by which the net n gets the table that the body says, in the window of so many steps
abbrev pub rule_of : NetParts → ℕ → ℕ → ℕ → Body → Rule
rule_of net n d u body = Narrow (name_in (slot net.nets n)) d u body

-- it is noted why the net n stays
pub record IsNoted (n : ℕ) (why : Why) (old : NetParts) (entries : List Entry) (new : NetParts)
    : Type 0 where
  pub entries_are : entries ≡ note_of old n why ∷ []
  pub same : new ≡ old

-- the net n gets this table, in its own window alone
pub record Lessens (n : ℕ) (less : Cover) (old : NetParts) (entries : List Entry) (new : NetParts)
    : Type 0 where
  pub body : Body
  pub says : cover_said old.nets body ≡ less
  pub applies : Applies false (rule_of old n 0 0 body) old new
  pub entries_are : entries ≡ Applied (rule_of old n 0 0 body) ∷ []

-- it is noted that the net's own window is too wide
pub record IsNotedWide (n : ℕ) (old : NetParts) (entries : List Entry) (new : NetParts)
    : Type 0 where
  pub window : HasWindow old n 0 0 (TooWide old)
  pub noted : IsNoted n IsWide old entries new

-- what becomes of the net n, which may get this table: its own window is too wide, or it gets it
pub data MayLessen (n : ℕ) (less : Cover) (old : NetParts) (entries : List Entry) (new : NetParts)
    : Type 0 where
  Cannot : IsNotedWide n old entries new → MayLessen n less old entries new
  Does : Lessens n less old entries new → MayLessen n less old entries new

-- ---- what a command makes of tables

-- how a command treats the table of a net: the reasons for which it is noted that it stays, when it
-- is let be without a note, and the table that it gives way to
pub record Treatment : Type 1 where
  pub Notes : NetParts → ℕ → Cover → Why → Type 0
  pub LetsBe : NetParts → ℕ → Cover → Type 0
  pub Gives : NetParts → ℕ → Cover → Cover → Type 0

-- a visit of the net n: it has no table; or its table is let be; or it is noted why it stays; or it
-- gives way to another
pub data Treats (t : Treatment) (n : ℕ) (old : NetParts) (entries : List Entry) (new : NetParts)
    : Type 0 where
  HasNone : is_some (table_in (slot old.nets n)) ≡ false → Nothing old entries new
      → Treats t n old entries new
  IsLet : (table : Cover) → table_in (slot old.nets n) ≡ Some table → t.LetsBe old n table
      → Nothing old entries new
      → Treats t n old entries new
  StaysFor : (why : Why) → (table : Cover) → table_in (slot old.nets n) ≡ Some table
      → t.Notes old n table why
      → IsNoted n why old entries new → Treats t n old entries new
  GivesWay : (table less : Cover) → table_in (slot old.nets n) ≡ Some table
      → t.Gives old n table less
      → Lessens n less old entries new → Treats t n old entries new

-- ---- tables that allow less

-- a table for the net n, which reads no net besides those that its own reads, and allows less
pub record IsLesser (nets : List (Option FlatNet)) (n : ℕ) (new : Cover) : Type 0 where
  pub table : Cover
  pub table_is : table_in (slot nets n) ≡ Some table
  pub cover : IsCover nets (values_in (slot nets n)) new
  pub reads : ReadsWithin table new
  pub less : AllowsLess nets n table new
