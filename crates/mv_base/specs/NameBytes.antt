-- Where the bytes of a name stand. No public clause cites this module.
use Rattle.std.specs.Prelude.{ℕ, List}
use Rattle.mv_base.specs.declared.name.Storage.{Storage}
use Rattle.mv_base.specs.declared.name.Storage.TheVariants.{Inline, Beside, Shared}

-- the bytes in a storage
abbrev pub bytes_of : Storage → List ℕ
bytes_of (Inline b) = b
bytes_of (Beside b) = b.value
bytes_of (Shared b) = b.value.items
