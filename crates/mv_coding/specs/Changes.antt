-- The change by which the values of a net are encoded, as it is made. What private functions alone
-- cite.
use Rattle.std.specs.Prelude.{ℕ, Bool, Option, List}
use Rattle.mv_codes.specs.Wide.{IsTooWide}
use Rattle.mv_codes.specs.Tables.{reader_coded}
use Rattle.mv_codes.specs.declared.coding.Coding.{Coding}
use Rattle.mv_net.specs.declared.parts.FlatNet.{FlatNet}
use Rattle.mv_readers.specs.Readers.{EachReader}

-- of these nets each that reads the coding's net gets a table that isn't too wide
abbrev pub AreNarrow : List (Option FlatNet) → Coding → (ℕ → Bool) → Type 0
AreNarrow nets coding readers =
    EachReader nets coding.net.0 readers (λ c. IsTooWide (reader_coded coding c) → ⊥)
