-- The nets for which something may have changed where a net goes into its readers, or is no more
-- read by them.
use Rattle.std.specs.Prelude.{◌≡◌, ℕ, true, Option, List}
use Rattle.mv_net.specs.declared.parts.FlatNet.{FlatNet}
use Rattle.mv_net.specs.Nets.{reads_in}

-- m is the net n, a net that n reads, one that reads n, or one that a reader of n reads
pub data IsNear (nets : List (Option FlatNet)) (n m : ℕ) : Type 0 where
  Itself : m ≡ n → IsNear nets n m
  Fanin : reads_in nets n m ≡ true → IsNear nets n m
  Reader : reads_in nets m n ≡ true → IsNear nets n m
  Beside : (r : ℕ) → reads_in nets r n ≡ true → reads_in nets r m ≡ true → IsNear nets n m
