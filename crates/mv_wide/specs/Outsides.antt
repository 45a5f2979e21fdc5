-- The pairs outside a flexibility as a set of points of a window's variables.
use Rattle.std.specs.Prelude.{ℕ, Bool, Option, List, MatchBool}
use Rattle.mv_diagram.specs.Sets.{Point, InRange}
use Rattle.mv_flex.specs.Flex.{InFlex}
use Rattle.mv_net.specs.declared.parts.FlatNet.{FlatNet}
use Rattle.mv_net.specs.declared.window.Window.{Window}
use Rattle.mv_relation.specs.Relations.{assigned}

-- the set has exactly the points whose values of n and of the nets that n reads are no pair of the
-- flexibility
pub record IsOutside (nets : List (Option FlatNet)) (w : Window) (n : ℕ) (counts vars : List ℕ)
    (set : Point → Bool) : Type 0 where
  pub each : (p : Point) → InRange counts p → MatchBool (set p)
      (InFlex nets w n (assigned vars p) (assigned vars p n) → ⊥)
      (InFlex nets w n (assigned vars p) (assigned vars p n))
