-- What is left of a set where some variables are given values and some values are read as the
-- greatest.
use Rattle.std.specs.Prelude.{◌≡◌, ◌==◌, ◌&&◌, ◌||◌, ◌⊎◌, ℕ, Bool, true, false, List, Option, nat_lt, if◌then◌else◌}
use Rattle.mv_diagram.specs.declared.node.Node.{Node}
use Rattle.mv_diagram.specs.Sets.{Point, InRange, greatest, holds, has_diagram}

-- whether a variable is given a value: it is chosen, or stands before one
abbrev pub is_given : (ℕ → Bool) → ℕ → ℕ → Bool
is_given chosen var v = chosen v || nat_lt v var

-- the point with given values of chosen variables and before a variable, and with the greatest
-- value of this one in place of those below a number
abbrev pub restricted : List ℕ → (ℕ → Bool) → Point → ℕ → ℕ → Point → Point
restricted counts chosen given var below p v = if is_given chosen var v then given v
    else (if v == var && nat_lt (p v) below then greatest counts v else p v)

-- what two steps leave of a set: chosen variables and those before one are given values, and at
-- this one the values below a number are read as its greatest
pub record IsRestriction (counts : List ℕ) (chosen : ℕ → Bool) (whole part : Point → Bool)
    : Type 0 where
  pub given : Point
  pub var : ℕ
  pub below : ℕ
  pub range : InRange counts given
  pub is : (p : Point) → InRange counts p
      → part p ≡ whole (restricted counts chosen given var below p)

-- no variable is chosen
abbrev pub no_variable : ℕ → Bool
no_variable v = false

-- a restriction has the answer at a point, and the part has it wherever the restriction has it
pub record Piece (counts : List ℕ) (chosen : ℕ → Bool) (answer : Bool) (whole part : Point → Bool)
    (p : Point) : Type 0 where
  pub piece : Point → Bool
  pub is : IsRestriction counts chosen whole piece
  pub here : piece p ≡ answer
  pub within : (q : Point) → InRange counts q → piece q ≡ answer → part q ≡ answer

-- the part has the answer exactly where one of some restrictions has it. Where the answer is yes it
-- is their union: each of its points is in one that lies in it. Where it is no it is their meet:
-- each point that it lacks is lacking in one in which it lies
pub record IsCombined (counts : List ℕ) (chosen : ℕ → Bool) (answer : Bool)
    (whole part : Point → Bool) : Type 0 where
  pub each : (p : Point) → InRange counts p → part p ≡ answer
      → Piece counts chosen answer whole part p

-- ---- what private functions alone cite

-- each diagram that is held now and wasn't has a restriction of the set
pub record AddsParts (counts : List ℕ) (old new : List (Option Node)) (whole : Point → Bool)
    : Type 0 where
  pub each : (d : ℕ) → has_diagram new d ≡ true
      → (has_diagram old d ≡ true)
      ⊎ IsRestriction counts no_variable whole (λ p. holds counts new d p)

-- each diagram that is held now and wasn't has the answer where one of some restrictions of the set
-- has it
pub record AddsCombined (counts : List ℕ) (chosen : ℕ → Bool) (answer : Bool)
    (old new : List (Option Node)) (whole : Point → Bool) : Type 0 where
  pub each : (d : ℕ) → has_diagram new d ≡ true
      → (has_diagram old d ≡ true)
      ⊎ IsCombined counts chosen answer whole (λ p. holds counts new d p)
