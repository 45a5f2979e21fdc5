-- The lines that tell how a run ended.
use Rattle.std.specs.Prelude.{◌⊎◌, ℕ, List, ◌++◌, IfSome, codes}
use Rattle.mv_base.specs.Outside.{Written, Gained, GainedFront, GainedPart, Rose}

-- the line of refused words
abbrev pub words_line : List ℕ
words_line = codes "# fault words\n"

-- the line of a file that couldn't be read
abbrev pub read_line : List ℕ
read_line = codes "# fault read\n"

-- the line of want of memory
abbrev pub memory_line : List ℕ
memory_line = codes "# fault memory\n"

-- the notes gained the line, or some first part of it where their count of faults rose
abbrev pub TellsLine : Written → Written → List ℕ → Type 0
TellsLine old new line = Gained old new line
    ⊎ (GainedPart old new line × Rose old.faults new.faults)

-- the notes gained the text whole, and behind it the line, or some first part of the line where
-- their count of faults rose
pub record TellsBehind (old new : Written) (text line : List ℕ) : Type 0 where
  pub how : Gained old new (text ++ line)
      ⊎ (IfSome old.told (λ had. GainedFront (had ++ text) new.told line)
      × Rose old.faults new.faults)
