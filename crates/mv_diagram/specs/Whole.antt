-- What is always true of the fields.
use Rattle.std.specs.Prelude.{◌≡◌, ◌≤◌, ℕ, List, length, Option}
use Rattle.mv_diagram.specs.declared.node.Dd.{Dd}
use Rattle.mv_diagram.specs.declared.node.Node.{Node}
use Rattle.mv_diagram.specs.declared.memo.Key.{Key}
use Rattle.mv_diagram.specs.Sound.{Ascends, IsReduced}
use Rattle.mv_diagram.specs.Results.{Remembers}

-- the nodes are sound, what is remembered is right, before the first reclaim no place is free, and
-- there is room to gather the places of roots, to mark variables, and to list places
pub record IsWhole (counts : List ℕ) (nodes : List (Option Node)) (entries : List (Key × Dd))
    (cap reclaims marks ids chosen found : ℕ) : Type 0 where
  pub sound : IsReduced counts nodes
  pub remembers : Remembers counts nodes entries
  pub ascends : reclaims ≡ 0 → Ascends nodes
  pub marked : cap ≤ marks
  pub gathered : cap ≤ ids
  pub room : length counts ≤ chosen
  pub listed : cap ≤ found
