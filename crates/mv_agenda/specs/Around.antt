-- On the way through the nets near one: a net with those that it reads. For private functions.
use Rattle.std.specs.Prelude.{◌≡◌, ℕ, true, Option, List}
use Rattle.mv_net.specs.declared.parts.FlatNet.{FlatNet}
use Rattle.mv_net.specs.Nets.{reads_in}
use Rattle.mv_agenda.specs.Agenda.{waits}

-- n and each net that it reads wait
pub record WaitsWithFanins (nets : List (Option FlatNet)) (n : ℕ) (agenda : List ℕ) : Type 0 where
  pub itself : waits agenda n ≡ true
  pub fanins : (m : ℕ) → reads_in nets n m ≡ true → waits agenda m ≡ true

-- n and each net that it reads wait, and what waited still does
pub record PutsWithFanins (nets : List (Option FlatNet)) (n : ℕ) (old new : List ℕ) : Type 0 where
  pub stay : (m : ℕ) → waits old m ≡ true → waits new m ≡ true
  pub put : WaitsWithFanins nets n new
