-- The sets of points that diagrams stand for.
use Rattle.std.specs.Prelude.{◌≡◌, ◌-◌, ◌*◌, ◌<◌, ◌==◌, ◌||◌, ℕ, Bool, List, length, Option, is_some, option_and_then, nat_lt, slice_index, if◌then◌else◌}
use Rattle.std.proofs.Common.{zero, suc}
use Rattle.std.specs.Option.{option_map_or}
use Rattle.mv_base.specs.declared.limits.TheConstants.{MAX_VALUES}
use Rattle.mv_pool.specs.Places.{item_at}
use Rattle.mv_pool.specs.declared.pool.Id.{Id}
use Rattle.mv_diagram.specs.declared.node.Node.{Node}
use Rattle.mv_diagram.specs.Links.{place_of}

-- a point gives each variable a value
abbrev pub Point : Type 0
Point = ℕ → ℕ

-- each value is one of its variable
pub record InRange (counts : List ℕ) (p : Point) : Type 0 where
  pub below : (v : ℕ) → v < length counts → p v < slice_index counts v

-- the point with this value of one variable
abbrev pub with_value : Point → ℕ → ℕ → Point
with_value p var value v = if v == var then value else p v

-- the greatest value of a variable
abbrev pub greatest : List ℕ → ℕ → ℕ
greatest counts var = slice_index counts var - 1

-- the node at the place of a diagram's number, if there is one
abbrev pub node_at : List (Option Node) → ℕ → Option Node
node_at ns d = option_and_then (λ (id : Id). item_at ns id.0) (place_of d)

-- whether a diagram is held: zero and one are, and each whose first node is
abbrev pub has_diagram : List (Option Node) → ℕ → Bool
has_diagram ns d = nat_lt d 2 || is_some (node_at ns d)

-- whether a point is in the set of a diagram: the tests are followed from its first node to zero or
-- one, by at most so many steps
abbrev pub holds_within : ℕ → List (Option Node) → ℕ → Point → Bool
holds_within zero ns d p = d == 1
holds_within (suc steps) ns d p =
    option_map_or
    (λ n. if p n.test.var == n.test.value then holds_within steps ns n.yes.0 p
    else holds_within steps ns n.no.0 p) (node_at ns d) (d == 1)

-- whether a point is in the set of a diagram. The tests ascend, so each comes once
unfoldable pub holds : List ℕ → List (Option Node) → ℕ → Point → Bool
holds counts ns d p = holds_within (length counts * MAX_VALUES) ns d p

-- two diagrams have the same points
pub record SameSet (counts : List ℕ) (a b : Point → Bool) : Type 0 where
  pub each : (p : Point) → InRange counts p → a p ≡ b p
