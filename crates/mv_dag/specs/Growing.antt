-- What holds of a graph while nets come. For private functions.
use Rattle.std.specs.Prelude.{◌≡◌, ℕ, List, [], ◌++◌, length, replicate, take}
use Rattle.mv_base.specs.declared.number.NetId.{NetId}
use Rattle.mv_dag.specs.Ordered.{IsOrdered}

-- so many numbers came, which read nothing and are read by none, each with a label
pub record AreAdded (k : ℕ) (fanins more readers readers_more : List (List NetId))
    (labels labels_more : List ℕ) : Type 0 where
  pub fanins_are : more ≡ fanins ++ replicate k []
  pub readers_are : readers_more ≡ readers ++ replicate k []
  pub front : take (length labels) labels_more ≡ labels
  pub ordered : IsOrdered more labels_more
