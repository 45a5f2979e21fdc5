-- Sets that give a variable one value, by the values of the others.
use Rattle.std.specs.Prelude.{◌≡◌, ◌<◌, ℕ, Bool, true, List, [], ◌∷◌}
use Rattle.mv_diagram.specs.Sets.{Point, InRange}
use Rattle.mv_diagram.specs.Quantified.{Agreeing, AgreesOutside, is_one_of}

-- whether a variable is this one
abbrev pub is_this : ℕ → ℕ → Bool
is_this var v = is_one_of (var ∷ []) v

-- each point agrees, outside the variable, with a point of the set, and no two points of the set
-- agree so
pub record IsFunction (counts : List ℕ) (set : Point → Bool) (var : ℕ) : Type 0 where
  pub total : (p : Point) → InRange counts p → Agreeing counts (is_this var) set true p
  pub one : (p q : Point) → InRange counts p → InRange counts q → AgreesOutside (is_this var) p q
      → set p ≡ true → set q ≡ true → p var ≡ q var

-- ---- what private functions alone cite

-- each point agrees so with a point of the set
pub record IsTotal (counts : List ℕ) (set : Point → Bool) (var : ℕ) : Type 0 where
  pub each : (p : Point) → InRange counts p → Agreeing counts (is_this var) set true p

-- no two points of the set agree so where one has this value, and the other a smaller one
pub record IsApart (counts : List ℕ) (set : Point → Bool) (var value : ℕ) : Type 0 where
  pub none : (p q : Point) → InRange counts p → InRange counts q → AgreesOutside (is_this var) p q
      → set p ≡ true → set q ≡ true → p var < value → q var ≡ value → ⊥

-- the values of the variable are below this one
pub record AreBelow (counts : List ℕ) (var value : ℕ) : Type 0 where
  pub each : (p : Point) → InRange counts p → p var < value
