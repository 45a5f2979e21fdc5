-- The list of the instances of a design, as the walk answers it.
use Rattle.std.specs.Prelude.{◌≡◌, ℕ, ◌+◌, List, [], ◌∷◌, ◌++◌, unwrap_or}
use Rattle.mv_design.specs.declared.design.Design.{Design}
use Rattle.mv_tree.specs.Tree.{Instances, NoMore, More, size_of}
use Rattle.mv_walk.specs.declared.opened.Opened.{Opened}
use Rattle.mv_walk.specs.Walk.{HasTree}
use Rattle.mv_walk.specs.Commands.{place_named}

-- the instances of a tree in unfolding order, each before those inside it: of each the place of its
-- model, the number of the instance round it, and the place of its command. The first has the
-- number `next`, and the one round them all has `round`; its command is the one at place `instance`
abbrev pub openings : Design → ℕ → ℕ → ℕ → Instances → List Opened
openings d round next instance NoMore = []
openings d round next instance (More p m inside rest) =
    record {
      model = unwrap_or (place_named d.models p.model) 0;
      round = round;
      instance = instance;
    }
    ∷ (openings d next (next + 1) 0 inside
    ++ openings d round (next + 1 + size_of inside) (instance + 1) rest)

-- the list of the instances of a design: those of the tree that it has, numbered from 1, with 0 for
-- the root
pub record AreOpened (d : Design) (list : List Opened) : Type 0 where
  pub tree : Instances
  pub has : HasTree d tree
  pub is : list ≡ openings d 0 1 0 tree
