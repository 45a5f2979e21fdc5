-- The tables of a network divided: the lines of one and the same output set are a cover, and each
-- cover is divided by itself.
use Rattle.std.specs.Prelude.{◌≡◌, ℕ, Bool, true, false, nat_eq, List, [], ◌∷◌, ◌++◌, map, filter, All, Contains}
use Rattle.std.specs.List.{flat_map}
use Rattle.indexmap.specs.IndexSet.{insert_all}
use Rattle.mv_base.specs.Set.{one}
use Rattle.mv_base.specs.declared.number.NetId.{NetId}
use Rattle.mv_cover.specs.Literal.{Lit}
use Rattle.mv_cover.specs.declared.line.Line.{Line}
use Rattle.mv_divide.specs.declared.part.Part.{Part}
use Rattle.mv_divide.specs.declared.quotient.Quotient.{Quotient}
use Rattle.mv_divide.specs.Division.{IsQuotient, IsProduct}

-- the output sets, each once, in the order in which they first appear
abbrev pub outputs : List Line → List ℕ
outputs lines = insert_all nat_eq [] (map (λ (l : Line). l.out) lines)

-- the cover of an output set: the cubes of the lines with it
abbrev pub cover_of : List Line → ℕ → List (List Lit)
cover_of lines out = map (λ (l : Line). l.cube) (filter (λ (l : Line). nat_eq l.out out) lines)

-- the covers of a table, in the order of the output sets
abbrev pub parts_of : List Line → List Part
parts_of lines = map (λ (out : ℕ). record { out = out; cover = cover_of lines out }) (outputs lines)

-- the quotients of the covers of a table, in that order
pub record AreQuotients (parts : List Part) (divisor : List (List Lit)) (quotients : List Quotient)
    : Type 0 where
  pub outs : map (λ (q : Quotient). q.out) quotients ≡ map (λ (p : Part). p.out) parts
  pub each : All
      (λ (q : Quotient). (p : Part) × Contains parts p × (p.out ≡ q.out)
      × IsQuotient p.cover divisor q.cubes) quotients

-- the line's cube is the join of a cube of the quotient of its cover to a cube of the divisor
pub record IsDividedLine (divisor : List (List Lit)) (quotients : List Quotient) (line : Line)
    : Type 0 where
  pub quotient : Quotient
  pub there : Contains quotients quotient
  pub out : quotient.out ≡ line.out
  pub product : IsProduct quotient.cubes divisor line.cube

-- a cube, with the literal that the net n is 1
abbrev pub with_one : NetId → List Lit → List Lit
with_one n cube = cube ++ record { net = n; set = one 1 } ∷ []

-- the lines for the cubes of a quotient, in which the net n stands for the divisor
abbrev pub lines_for : NetId → Quotient → List Line
lines_for n q = map (λ (s : List Lit). record { cube = with_one n s; out = q.out }) q.cubes

-- the lines of a divided table: those that are no products, in their order, and behind them those
-- for the quotients
pub record AreDivided (lines : List Line) (divisor : List (List Lit)) (n : NetId)
    (quotients : List Quotient) (new : List Line) : Type 0 where
  pub stays : Line → Bool
  pub kept : (l : Line) → Contains lines l → stays l ≡ true → IsDividedLine divisor quotients l → ⊥
  pub gone : (l : Line) → Contains lines l → stays l ≡ false → IsDividedLine divisor quotients l
  pub are : new ≡ filter stays lines ++ flat_map (lines_for n) quotients

-- a table divided, where some quotient has a cube
pub record IsDivided (lines : List Line) (divisor : List (List Lit)) (n : NetId) (new : List Line)
    : Type 0 where
  pub quotients : List Quotient
  pub are : AreQuotients (parts_of lines) divisor quotients
  pub some : All (λ (q : Quotient). q.cubes ≡ []) quotients → ⊥
  pub table : AreDivided lines divisor n quotients new

-- no cover of the table has a quotient with a cube
pub record IsUndivided (lines : List Line) (divisor : List (List Lit)) : Type 0 where
  pub quotients : List Quotient
  pub are : AreQuotients (parts_of lines) divisor quotients
  pub none : All (λ (q : Quotient). q.cubes ≡ []) quotients
