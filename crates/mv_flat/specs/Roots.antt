-- What is known of the root of a design without instances.
use Rattle.std.specs.Prelude.{◌≡◌, ℕ, List, []}
use Rattle.mv_design.specs.declared.design.Design.{Design}
use Rattle.mv_design.specs.Nets.{root_of}
use Rattle.mv_walk.specs.declared.opened.Opened.{Opened}
use Rattle.mv_acyclic.specs.Glance.{IsKnownSound}

-- there are no instances, the root is sound and within the limits, and these are its driven nets
pub record IsSoundRoot (d : Design) (opened : List Opened) (driven : List (List ℕ)) : Type 0 where
  pub none : opened ≡ []
  pub known : IsKnownSound (root_of d) driven
