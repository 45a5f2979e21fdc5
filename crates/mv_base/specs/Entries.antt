-- How files in memory are kept: pairs of a name and its content, the place of the current one and
-- how far it is read.
use Rattle.std.specs.Prelude.{◌≡◌, ℕ, ◌≤◌, ◌<◌, List, [], length, drop, Option, Some, None, slice_index_or, string_bytes}
use Rattle.std.specs.declared.string.String.{String}
use Rattle.std.specs.declared.vec.Vec.{Vec}
use Rattle.std.specs.declared.alloc.Global.{Global}
use Rattle.mv_base.specs.Outside.{file_named}

-- a file as its name and content
abbrev pub entry_of : String Global × Vec ℕ Global → List ℕ × List ℕ
entry_of f = (string_bytes f.0, f.1.items)

-- the file at a place
abbrev pub file_at : List (List ℕ × List ℕ) → ℕ → List ℕ × List ℕ
file_at files place = slice_index_or files place ([], [])

-- the name of the current file
abbrev pub name_at : List (List ℕ × List ℕ) → Option ℕ → Option (List ℕ)
name_at files None = None
name_at files (Some place) = Some (file_at files place).0

-- what is left of the current file, where it is read up to `at`
abbrev pub rest_at : List (List ℕ × List ℕ) → Option ℕ → ℕ → List ℕ
rest_at files None at = []
rest_at files (Some place) at = drop at (file_at files place).1

-- the current file is one of these files, and read no further than its end
abbrev pub IsPlace : List (List ℕ × List ℕ) → Option ℕ → ℕ → Type 0
IsPlace files None at = Unit {0}
IsPlace files (Some place) at = (place < length files) × (at ≤ length (file_at files place).1)

-- ---- what private functions alone cite

-- the file at the place is the first with this name
pub record IsFirstNamed (name : List ℕ) (files : List (List ℕ × List ℕ)) (place : ℕ) : Type 0 where
  pub within : place < length files
  pub name_is : (file_at files place).0 ≡ name
  pub content : file_named name files ≡ Some (file_at files place).1
