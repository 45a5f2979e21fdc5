-- What lines weigh, by which a line is heavier than those that it lies in: what private functions
-- alone cite.
use Rattle.std.specs.Prelude.{ℕ, ◌+◌, ◌-◌, ◌≤◌, List, All, sum_by, count_ones}
use Rattle.mv_base.specs.declared.limits.TheConstants.{MAX_VALUES}
use Rattle.mv_cover.specs.Literal.{Lit}
use Rattle.mv_cover.specs.declared.line.Line.{Line}

-- one more than the values that a set leaves out, of as many as a net may have
abbrev pub set_weight : ℕ → ℕ
set_weight set = MAX_VALUES + 1 - count_ones set

-- the sum over the literals
abbrev pub cube_weight : List Lit → ℕ
cube_weight cube = sum_by (λ (l : Lit). set_weight l.set) cube

-- that of the literals and of the output
abbrev pub weight_of : Line → ℕ
weight_of l = cube_weight l.cube + set_weight l.out

-- no literal's set has more values than a net may have
abbrev pub AreCounted : List Lit → Type 0
AreCounted cube = All (λ (l : Lit). count_ones l.set ≤ MAX_VALUES) cube

-- no set of the line has more values than a net may have
pub record IsCounted (l : Line) : Type 0 where
  pub lits : AreCounted l.cube
  pub out : count_ones l.out ≤ MAX_VALUES
