-- Nets whose names aren't too long for words of a text.
use Rattle.std.specs.Prelude.{ℕ, ◌≤◌, Option, List, length}
use Rattle.mv_base.specs.declared.limits.TheConstants.{MAX_WORD_BYTES}
use Rattle.mv_net.specs.declared.parts.FlatNet.{FlatNet}
use Rattle.mv_net.specs.Nets.{slot, name_in}

-- no net has a name that is longer than a word may be
pub record HasWordNames (nets : List (Option FlatNet)) : Type 0 where
  pub short : (n : ℕ) → length (name_in (slot nets n)) ≤ MAX_WORD_BYTES
