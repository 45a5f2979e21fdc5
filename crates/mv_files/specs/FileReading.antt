-- A file that was read up to a limit.
use Rattle.std.specs.Prelude.{◌≡◌, ℕ, ◌+◌, ◌≤◌, IsTrue, IfSome, Some, None, List, [], ◌++◌, length}
use Rattle.mv_base.specs.Outside.{Held, Stored, StillTell, counted, file_named}

-- the files stay, and stay sound; the named one is the current one, and these bytes, its first
-- ones, were read
pub record HasRead (before after : Held) (name bytes : List ℕ) : Type 0 where
  pub files : after.files ≡ before.files
  pub sound : IsTrue before.sound → IsTrue after.sound
  pub current : after.current ≡ Some name
  pub content : file_named name before.files ≡ Some (bytes ++ after.rest)

-- the named file was read to its end, or to the first byte past the limit
pub record WasRead (before after : Held) (name : List ℕ) (limit : ℕ) (bytes : List ℕ) : Type 0 where
  pub read : HasRead before after name bytes
  pub few : length bytes ≤ limit + 1
  pub ended : length bytes ≤ limit → after.rest ≡ []

-- the same where the files tell of themselves
abbrev pub Read : Stored → Stored → List ℕ → ℕ → List ℕ → Type 0
Read old new name limit bytes =
    StillTell old new (λ before after. WasRead before after name limit bytes)

-- the files stay, and stay sound
pub record StaySame (before after : Held) : Type 0 where
  pub files : after.files ≡ before.files
  pub sound : IsTrue before.sound → IsTrue after.sound

-- the files stay, and stay sound, where they tell of themselves, and their count of faults doesn't
-- fall
pub record Stay (old new : Stored) : Type 0 where
  pub same : StillTell old new StaySame
  pub later : old.faults ≤ new.faults

-- no file was begun
abbrev pub BeganNone : Stored → Stored → Type 0
BeganNone old new = new.starts ≡ old.starts

-- exactly one file was begun
abbrev pub BeganOne : Stored → Stored → Type 0
BeganOne old new = new.starts ≡ counted old.starts

-- exactly two files were begun
abbrev pub BeganTwo : Stored → Stored → Type 0
BeganTwo old new = new.starts ≡ counted (counted old.starts)

-- files that tell that they are sound do not hold this name
abbrev pub Lacks : Stored → List ℕ → Type 0
Lacks files name = IfSome files.held (λ held. IsTrue held.sound → file_named name held.files ≡ None)

-- files that tell have this content by this name
abbrev pub Holds : Stored → List ℕ → List ℕ → Type 0
Holds files name content = IfSome files.held (λ held. file_named name held.files ≡ Some content)
