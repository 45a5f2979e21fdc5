-- A file that is read piece by piece. For private functions.
use Rattle.std.specs.Prelude.{◌≡◌, ℕ, ◌+◌, ◌<◌, ◌≤◌, Bool, true, false, IsTrue, IfSome, Option, List, [], ◌++◌, length}
use Rattle.mv_base.specs.Outside.{Held, Still}

-- between two states these bytes of the current file were read
pub record HasPassed (before after : Held) (bytes : List ℕ) : Type 0 where
  pub files : after.files ≡ before.files
  pub current : after.current ≡ before.current
  pub sound : IsTrue before.sound → IsTrue after.sound
  pub passed : before.rest ≡ bytes ++ after.rest

-- the same where the files tell of themselves
abbrev pub Passed : Option Held → Option Held → List ℕ → Type 0
Passed before after bytes = Still before after (λ b a. HasPassed b a bytes)

-- nothing of the current file is left, where the files tell of themselves
abbrev pub Ended : Option Held → Option Held → Type 0
Ended before after = Still before after (λ b a. a.rest ≡ [])

-- the files do not tell that they are sound
abbrev pub Unsound : Option Held → Type 0
Unsound held = IfSome held (λ h. IsTrue h.sound → ⊥)

-- a piece was read behind the bytes: it has a byte, or the file has ended
pub record GotPiece (before after : Option Held) (old new : List ℕ) (most : ℕ) (more : Bool)
    : Type 0 where
  pub piece : List ℕ
  pub added : new ≡ old ++ piece
  pub few : length piece ≤ most
  pub some : more ≡ true → 0 < length piece
  pub ended : more ≡ false → Ended before after
  pub passed : Passed before after piece

-- all that was left was read, or what was left up to the first byte past the limit
pub record ReadOn (before after : Option Held) (limit : ℕ) (bytes : List ℕ) : Type 0 where
  pub passed : Passed before after bytes
  pub few : length bytes ≤ limit + 1
  pub ended : length bytes ≤ limit → Ended before after
