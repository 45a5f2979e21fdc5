-- What is asked of the values of nets, and the assignments in which they have them.
use Rattle.std.specs.Prelude.{◌≡◌, ℕ, Bool, true, false, ◌&&◌, nat_eq, Option, List, slice_index_or}
use Rattle.mv_base.specs.declared.number.NetId.{NetId}
use Rattle.mv_graph.specs.Nets.{has_id}
use Rattle.mv_net.specs.declared.parts.FlatNet.{FlatNet}
use Rattle.mv_net.specs.Nets.{slot}
use Rattle.mv_net.specs.Allowed.{net_allows, Agrees}
use Rattle.mv_solve.specs.declared.asked.Asked.{Asked}
use Rattle.mv_solve.specs.declared.asked.Asked.TheVariants.{Anything, Only, Nothing}

-- the value will do
abbrev pub takes : Asked → ℕ → Bool
takes Anything v = true
takes (Only u) v = nat_eq v u.0
takes Nothing v = false

-- what is asked of the net at a number
abbrev pub asked_of : List Asked → ℕ → Asked
asked_of asked n = slice_index_or asked n Anything

-- each net of the order has a value that will do
pub record HasAsked (order : List NetId) (asked : List Asked) (at : ℕ → ℕ) : Type 0 where
  pub each : (n : ℕ) → has_id order n ≡ true → takes (asked_of asked n) (at n) ≡ true

-- an assignment that agrees with every net, in which the nets have the values that are asked for
pub record IsSolution (nets : List (Option FlatNet)) (order : List NetId) (asked : List Asked)
    (at : ℕ → ℕ) : Type 0 where
  pub agrees : Agrees nets at
  pub asks : HasAsked order asked at

-- no assignment is such
pub record NoSolution (nets : List (Option FlatNet)) (order : List NetId) (asked : List Asked)
    : Type 0 where
  pub none : (at : ℕ → ℕ) → IsSolution nets order asked at → ⊥

-- ---- what private functions alone cite

-- the net may have the value: its table allows it, and it will do
abbrev pub may_have : List (Option FlatNet) → Asked → (ℕ → ℕ) → ℕ → ℕ → Bool
may_have nets asked at n v = net_allows (slot nets n) at v && takes asked v
