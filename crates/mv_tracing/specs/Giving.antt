-- Values that are asked of a solver.
use Rattle.std.specs.Prelude.{◌≡◌, ◌↔◌, ℕ, true, List}
use Rattle.std.specs.List.{AllByRecursion}
use Rattle.mv_base.specs.declared.number.NetId.{NetId}
use Rattle.mv_graph.specs.Nets.{has_id}
use Rattle.mv_solve.specs.Asked.{HasAsked}
use Rattle.mv_solve.specs.Search.{Search}

-- the nets at these numbers stand in the order
abbrev pub AreOrdered : List NetId → List (ℕ × ℕ) → Type 0
AreOrdered order pairs = AllByRecursion (λ (p : ℕ × ℕ). has_id order p.0 ≡ true) pairs

-- the assignment has these values
abbrev pub HasValues : (ℕ → ℕ) → List (ℕ × ℕ) → Type 0
HasValues at pairs = AllByRecursion (λ (p : ℕ × ℕ). at p.0 ≡ p.1) pairs

-- the solver asks for these values besides
pub record Gives (old new : Search) (pairs : List (ℕ × ℕ)) : Type 0 where
  pub order : new.order ≡ old.order
  pub asked : (at : ℕ → ℕ) → HasAsked new.order new.asked at
      ↔ (HasAsked old.order old.asked at × HasValues at pairs)

-- the solver asks for these values and for nothing else
pub record AsksFor (old new : Search) (pairs : List (ℕ × ℕ)) : Type 0 where
  pub order : new.order ≡ old.order
  pub asked : (at : ℕ → ℕ) → HasAsked new.order new.asked at ↔ HasValues at pairs
