-- What becomes of a net whose table is to give way to a new one, in a window round it.
use Rattle.std.specs.Prelude.{◌≡◌, ℕ, true, Option, List}
use Rattle.mv_cover.specs.declared.cover.Cover.{Cover}
use Rattle.mv_cover.specs.Covers.{allowed}
use Rattle.mv_flex.specs.declared.flexibility.Flexibility.{Flexibility}
use Rattle.mv_flex.specs.Flex.{CoverInFlex, IsPair, KeepsChoice, NodesCause, TooWide}
use Rattle.mv_flex.specs.Flexibilities.{IsFlex}
use Rattle.mv_meaning.specs.Narrowing.{AreTotalBelow}
use Rattle.mv_net.specs.declared.parts.FlatNet.{FlatNet}
use Rattle.mv_net.specs.declared.parts.NetParts.{NetParts}
use Rattle.mv_net.specs.declared.window.Window.{Window}
use Rattle.mv_net.specs.Window.{IsWindow}
use Rattle.mv_narrow.specs.declared.verdict.NarrowVerdict.{NarrowVerdict}
use Rattle.mv_narrow.specs.declared.verdict.NarrowVerdict.TheVariants.{Partial, TooWide as IsWide, NoNodes, Outside, Lost, Lawful}

-- it holds of the window round n, d steps down and from there u steps up
pub record HasWindow (net : NetParts) (n d u : ℕ) (Claim : Window → Type 0) : Type 0 where
  pub window : Window
  pub is : IsWindow net n d u window
  pub holds : Claim window

-- the window isn't too wide, and the new table allows a pair outside the flexibility in it
pub record IsOutside (net : NetParts) (n : ℕ) (new : Cover) (w : Window) : Type 0 where
  pub narrow : TooWide net w → ⊥
  pub outside : CoverInFlex net.nets w n new → ⊥

-- the window isn't too wide, and each pair that the new table allows is in the flexibility in it
pub record IsInside (net : NetParts) (n : ℕ) (new : Cover) (w : Window) : Type 0 where
  pub narrow : TooWide net w → ⊥
  pub inside : CoverInFlex net.nets w n new

-- the first that holds: a table below n isn't total; the window is too wide, or its pool of nodes
-- is full; the new table allows something outside the flexibility; it allows nothing where the old
-- one allows something; or nothing of all that
abbrev pub IsNarrowVerdict : NetParts → ℕ → ℕ → ℕ → ℕ → Cover → Cover → NarrowVerdict → Type 0
IsNarrowVerdict net n d u budget old new Partial = AreTotalBelow net.nets n → ⊥
IsNarrowVerdict net n d u budget old new IsWide = AreTotalBelow net.nets n
    × HasWindow net n d u (TooWide net)
IsNarrowVerdict net n d u budget old new NoNodes = AreTotalBelow net.nets n
    × HasWindow net n d u (λ w. NodesCause net w budget)
IsNarrowVerdict net n d u budget old new Outside = AreTotalBelow net.nets n
    × HasWindow net n d u (IsOutside net n new)
IsNarrowVerdict net n d u budget old new Lost =
    AreTotalBelow net.nets n
    × (HasWindow net n d u (IsInside net n new) × (KeepsChoice net.nets n old new → ⊥))
IsNarrowVerdict net n d u budget old new Lawful =
    AreTotalBelow net.nets n
    × (HasWindow net n d u (IsInside net n new) × KeepsChoice net.nets n old new)

-- f is the flexibility of n in its window that goes so far, which isn't too wide; and each table
-- below n is total
pub record IsFlexHere (net : NetParts) (n d u budget : ℕ) (f : Flexibility) : Type 0 where
  pub below : AreTotalBelow net.nets n
  pub window : Window
  pub is : IsWindow net n d u window
  pub narrow : TooWide net window → ⊥
  pub flex : IsFlex net window n budget f

-- the new table allows no pair that the old one doesn't, and something wherever that does
pub record AllowsLess (nets : List (Option FlatNet)) (n : ℕ) (old new : Cover) : Type 0 where
  pub within : (at : ℕ → ℕ) (v : ℕ) → IsPair nets n at v → allowed new at v ≡ true
      → allowed old at v ≡ true
  pub keeps : KeepsChoice nets n old new
