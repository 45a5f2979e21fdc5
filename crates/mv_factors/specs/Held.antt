-- What is always true of the fields.
use Rattle.std.specs.Prelude.{◌≡◌, ◌≤◌, ℕ, List, length, All}
use Rattle.mv_diagram.specs.declared.node.Dd.{Dd}
use Rattle.mv_diagram.specs.Diagrams.{Contents, IsHeld}
use Rattle.mv_factors.specs.declared.factors.TheConstants.{MAX_RECLAIMS}

-- all diagrams of the list are held, the number of variables is known, and what isn't needed was
-- given back no more often than it may be
pub record AreHeld (c : Contents) (list : List Dd) (vars : ℕ) : Type 0 where
  pub held : All (IsHeld c) list
  pub count : vars ≡ length c.counts
  pub few : c.reclaims ≤ MAX_RECLAIMS
