-- A table that allows less and is to be taken. What private functions alone cite.
use Rattle.std.specs.Prelude.{ℕ}
use Rattle.mv_cover.specs.declared.cover.Cover.{Cover}
use Rattle.mv_flex.specs.Flex.{TooWide}
use Rattle.mv_meaning.specs.Narrowing.{AreTotalBelow}
use Rattle.mv_net.specs.declared.parts.NetParts.{NetParts}
use Rattle.mv_net.specs.declared.window.Window.{Window}
use Rattle.mv_net.specs.Window.{IsWindow}
use Rattle.mv_visit.specs.Visits.{IsLesser}

-- a table that allows less for the net n, whose own window isn't too wide, and below which all
-- tables are total
pub record IsToTake (net : NetParts) (n : ℕ) (new : Cover) : Type 0 where
  pub lesser : IsLesser net.nets n new
  pub below : AreTotalBelow net.nets n
  pub window : Window
  pub is : IsWindow net n 0 0 window
  pub narrow : TooWide net window → ⊥
