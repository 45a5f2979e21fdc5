-- What a command does: rules and notes, one after the other, from its beginning to its end.
use Rattle.std.specs.Prelude.{◌≡◌, ℕ, ◌<◌, ◌^◌, Bool, List, [], ◌∷◌, ◌++◌}
use Rattle.mv_entry.specs.declared.note.Command.{Command}
use Rattle.mv_entry.specs.declared.note.Note.TheVariants.{Begin, End}
use Rattle.mv_entry.specs.Entries.{Entry, Applied, Noted}
use Rattle.mv_net.specs.declared.parts.NetParts.{NetParts}
use Rattle.mv_net.specs.Nets.{literals_in}
use Rattle.mv_rules.specs.Applies.{Applies}
use Rattle.mv_pass.specs.Courses.{Course}

-- the entries lead from the old network to the new one: each is lawful in the network at its place,
-- and each rule applies to it
abbrev pub Goes : Bool → (NetParts → Entry → Type 0) → NetParts → List Entry → NetParts → Type 0
Goes free Lawful old [] new = new ≡ old
Goes free Lawful old (Applied rule ∷ es) new =
    Lawful old (Applied rule)
    × ((mid : NetParts) × (Applies free rule old mid × Goes free Lawful mid es new))
Goes free Lawful old (Noted note ∷ es) new = Lawful old (Noted note) × Goes free Lawful old es new

-- the entries of a command that has begun and hasn't ended
abbrev pub begun : Command → List Entry → List Entry
begun command steps = Noted (Begin command) ∷ steps

-- the entries of a whole command, which ends with so many literals
abbrev pub whole : Command → List Entry → ℕ → List Entry
whole command steps literals = begun command steps ++ Noted (End literals) ∷ []

-- a whole command: it begins, its steps are this course from the old network to the new one, and it
-- ends with that network's literals, which are a number of 128 bits
pub record Does (Steps : Course) (command : Command) (old : NetParts) (entries : List Entry)
    (new : NetParts) : Type 0 where
  pub steps : List Entry
  pub course : Steps old steps new
  pub few : literals_in new.nets < 2 ^ 128
  pub entries_are : entries ≡ whole command steps (literals_in new.nets)

-- a command that has begun, and has come as far as this course
pub record HasBegun (Part : Course) (command : Command) (old : NetParts) (entries : List Entry)
    (new : NetParts) : Type 0 where
  pub steps : List Entry
  pub course : Part old steps new
  pub entries_are : entries ≡ begun command steps

-- a command that stops, with these entries: it hasn't begun, it has begun and come a part of its
-- way, or it is even whole
pub data Begun (Steps Part : Course) (command : Command) (old : NetParts) (entries : List Entry)
    (new : NetParts) : Type 0 where
  Before : entries ≡ [] → new ≡ old → Begun Steps Part command old entries new
  Within : HasBegun Part command old entries new → Begun Steps Part command old entries new
  Behind : Does Steps command old entries new → Begun Steps Part command old entries new
