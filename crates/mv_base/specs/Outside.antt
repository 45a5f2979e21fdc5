-- Files that are read and sinks that are written, as their owner sees them.
use Rattle.std.specs.Prelude.{◌≡◌, ℕ, ◌+◌, ◌-◌, ◌^◌, ◌<◌, ◌≤◌, min, Bool, IsTrue, List, [], ◌∷◌, ◌++◌, length, take}
use Rattle.std.specs.Prelude.{Option, Some, None, Result, IsOk, IfOk, IfSome, IsSomeAnd, OnOk, OnErr, if◌then◌else◌}
use Rattle.mv_base.specs.Names.{same_word}
use Rattle.mv_base.specs.declared.outside.Failed.{Failed}

-- what a set of files tells of itself: the files by name, the name of the current file and what is
-- left of it, and whether no fault is to come but for a name that isn't held
pub record Held : Type 0 where
  pub files : List (List ℕ × List ℕ)
  pub current : Option (List ℕ)
  pub rest : List ℕ
  pub sound : Bool

-- the state of a set of files: what it tells of itself, if it does, how often a file was begun, and
-- its count of faults; both counts end at their last value and never fall
pub record Stored : Type 0 where
  pub held : Option Held
  pub starts : ℕ
  pub faults : ℕ

-- the state of a sink: the bytes that it took so far, if it tells them, and its count of faults,
-- which never falls
pub record Written : Type 0 where
  pub told : Option (List ℕ)
  pub faults : ℕ

-- ---- counts

-- one more, for a count that ends at its last value
abbrev pub counted : ℕ → ℕ
counted n = min (n + 1) (2 ^ 64 - 1)

-- a count of faults rose: it is greater than before, or stands at its last value
abbrev pub Rose : ℕ → ℕ → Type 0
Rose before now = counted before ≤ now

-- a count of faults never falls, and a call fails only where it rose
pub record HasCause {T : Type 0} (before now : ℕ) (result : Result T Failed) : Type 0 where
  pub later : before ≤ now
  pub failed : OnErr result (Rose before now)

-- ---- files

-- the content of the first file with this name
abbrev pub file_named : List ℕ → List (List ℕ × List ℕ) → Option (List ℕ)
file_named name [] = None
file_named name (f ∷ fs) = if same_word name f.0 then Some f.1 else file_named name fs

-- a file is begun: the files stay; at Ok the file is the current one and all of it is left; sound
-- files fail exactly where none has the name, and stay sound
pub record Begins (old new : Held) (name : List ℕ) (result : Result (Unit {0}) Failed)
    : Type 0 where
  pub files : new.files ≡ old.files
  pub begun : OnOk result ((new.current ≡ Some name) × (file_named name old.files ≡ Some new.rest))
  pub only : IsTrue old.sound → OnErr result (file_named name old.files ≡ None)
  pub sound : IsTrue old.sound → IsTrue new.sound

-- the next bytes are given: the files and the current one stay; at Ok they go from the rest into
-- the room, none only where nothing is left or there is no room; sound files do not fail, and stay
-- sound
pub record Continues (old new : Held) (room : List ℕ) (result : Result ℕ Failed) : Type 0 where
  pub files : new.files ≡ old.files
  pub current : new.current ≡ old.current
  pub given : IfOk result (λ n. old.rest ≡ take n room ++ new.rest)
  pub ended : IfOk result (λ n. n ≡ 0 → 0 < length room → old.rest ≡ [])
  pub only : IsTrue old.sound → IsOk result
  pub sound : IsTrue old.sound → IsTrue new.sound

-- what was there before is there after, and this holds between the two
abbrev pub Still : Option Held → Option Held → (Held → Held → Type 0) → Type 0
Still before after P = IfSome before (λ b. IsSomeAnd after (λ a. P b a))

-- files that tell of themselves before a call tell of themselves after it, and this holds between
-- the two
abbrev pub StillTell : Stored → Stored → (Held → Held → Type 0) → Type 0
StillTell old new P = Still old.held new.held P

-- ---- sinks

-- a sink that tells its bytes has gained these
abbrev pub Gained : Written → Written → List ℕ → Type 0
Gained old new bytes = IfSome old.told (λ had. new.told ≡ Some (had ++ bytes))

-- a sink that had these bytes has gained some first part of those
pub record GainedFront (had : List ℕ) (told : Option (List ℕ)) (bytes : List ℕ) : Type 0 where
  pub front : List ℕ
  pub back : List ℕ
  pub whole : bytes ≡ front ++ back
  pub gained : told ≡ Some (had ++ front)

-- a sink that tells its bytes has gained some first part of these
abbrev pub GainedPart : Written → Written → List ℕ → Type 0
GainedPart old new bytes = IfSome old.told (λ had. GainedFront had new.told bytes)

-- a call appends bytes to a sink: at Ok it gained them, else some first part of them, and its count
-- of faults rose
pub record Appends (old new : Written) (bytes : List ℕ) (result : Result (Unit {0}) Failed)
    : Type 0 where
  pub ok : OnOk result (Gained old new bytes)
  pub part : OnErr result (GainedPart old new bytes)
  pub cause : HasCause old.faults new.faults result
