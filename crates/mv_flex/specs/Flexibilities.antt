-- What a flexibility is: the pairs outside it have marks.
use Rattle.std.specs.Prelude.{◌≡◌, ◌⊎◌, ℕ, true, false, Option, Some, List, ◌∷◌, length, slice_index_or}
use Rattle.mv_graph.specs.Nets.{has_id}
use Rattle.mv_net.specs.declared.parts.FlatNet.{FlatNet}
use Rattle.mv_net.specs.declared.parts.NetParts.{NetParts}
use Rattle.mv_net.specs.declared.window.Window.{Window}
use Rattle.mv_net.specs.Nets.{slot, table_in, reads_in}
use Rattle.mv_flex.specs.declared.flexibility.Flexibility.{Flexibility}
use Rattle.mv_flex.specs.Spaces.{code, AreBelow, NetSpace}
use Rattle.mv_flex.specs.Plans.{values_of, IsSpace}
use Rattle.mv_flex.specs.Flex.{AgreesBeside, HasReplacement}

-- an assignment of this pair agrees with each table of the window but n's, and has no replacement
pub record IsOutside (nets : List (Option FlatNet)) (w : Window) (n : ℕ) (pairs : NetSpace) (q : ℕ)
    : Type 0 where
  pub at : ℕ → ℕ
  pub agrees : AgreesBeside nets w n at
  pub alone : HasReplacement nets w at → ⊥
  pub pair : code pairs.counts (values_of at pairs.nets) ≡ q

-- f is the flexibility of the net n, in the window w and by this budget: it has n's table and a
-- mark for each pair outside
pub record IsFlex (net : NetParts) (w : Window) (n budget : ℕ) (f : Flexibility) : Type 0 where
  pub id : f.net.0 ≡ n
  pub table : table_in (slot net.nets n) ≡ Some f.old
  pub fanins : IsSpace net.nets f.fanins.nets f.fanins
  pub reads : (m : ℕ) → has_id f.fanins.nets m ≡ reads_in net.nets n m
  pub pairs : IsSpace net.nets (f.net ∷ f.fanins.nets) f.pairs
  pub long : length f.outside ≡ f.pairs.size
  pub below : (at : ℕ → ℕ) → AgreesBeside net.nets w n at
      → AreBelow f.pairs.counts (values_of at f.pairs.nets)
  pub only : (q : ℕ) → slice_index_or f.outside q false ≡ true → IsOutside net.nets w n f.pairs q
  pub all : (at : ℕ → ℕ) → AgreesBeside net.nets w n at
      → (slice_index_or f.outside (code f.pairs.counts (values_of at f.pairs.nets)) false ≡ true)
      ⊎ HasReplacement net.nets w at
