-- A step of `kernel` and `cube`: a net comes that stands for a common divisor, and the tables are
-- divided by it.
use Rattle.std.specs.Prelude.{◌≡◌, ℕ, Bool, List, [], ◌∷◌, length}
use Rattle.mv_base.specs.declared.number.NetId.{NetId}
use Rattle.mv_cover.specs.Literal.{Lit}
use Rattle.mv_cover.specs.declared.line.Line.{Line}
use Rattle.mv_cover.specs.declared.cover.Cover.{Cover}
use Rattle.mv_divide.specs.Tables.{IsUndivided}
use Rattle.mv_division.specs.Divisors.{add_rule}
use Rattle.mv_division.specs.Divided.{IsDivision, divide_rule}
use Rattle.mv_entry.specs.Entries.{Entry, Applied}
use Rattle.mv_gains.specs.Gains.{lines_at}
use Rattle.mv_gains.specs.Candidates.{Candidates, IsBest}
use Rattle.mv_net.specs.declared.parts.NetParts.{NetParts}
use Rattle.mv_net.specs.Fresh.{IsFreshName}
use Rattle.mv_net.specs.Nets.{slot}
use Rattle.mv_pass.specs.Courses.{Course, Nothing, InTurn, VisitsAll, VisitsSome, Onward}
use Rattle.mv_rules.specs.Applies.{Applies}

-- a net comes that stands for the divisor, by the first fresh name
pub record AddsDivisor
    (free : Bool) (divisor : List (List Lit))
    (old : NetParts) (entries : List Entry) (new : NetParts) : Type 0 where
  pub name : List ℕ
  pub fresh : IsFreshName old.nets 0 name
  pub applies : Applies free (add_rule old.nets name divisor) old new
  pub entries_are : entries ≡ Applied (add_rule old.nets name divisor) ∷ []

-- a visit of the net n, where the net d stands for the divisor: it is that net, or no cover of its
-- table has a quotient, and it is let be; or its table is divided by d
pub data DividesNet
    (free : Bool) (divisor : List (List Lit)) (d : NetId) (n : ℕ)
    (old : NetParts) (entries : List Entry) (new : NetParts) : Type 0 where
  Own : n ≡ d.0 → Nothing old entries new → DividesNet free divisor d n old entries new
  LetBe : IsUndivided (lines_at (slot old.nets n)) divisor → Nothing old entries new
      → DividesNet free divisor d n old entries new
  Divided : (by : List ℕ) (table : Cover) (lines : List Line)
      → IsDivision old.nets (record { 0 = n }) d by divisor table lines
      → Applies free (divide_rule old.nets n by table lines) old new
      → entries ≡ Applied (divide_rule old.nets n by table lines) ∷ []
      → DividesNet free divisor d n old entries new

-- the number of the net that comes next
abbrev pub next_net : NetParts → NetId
next_net net = record { 0 = length net.nets }

-- the divisor comes as a net, and each other table, ascending, is divided by it
abbrev pub TakesDivisor : Bool → List (List Lit) → Course
TakesDivisor free divisor old entries new =
    InTurn (AddsDivisor free divisor)
    (VisitsAll (DividesNet free divisor (next_net old))) old entries new

-- some of that
abbrev pub TakesDivisorSome : Bool → List (List Lit) → Course
TakesDivisorSome free divisor old entries new =
    Onward Nothing (AddsDivisor free divisor)
    (VisitsSome (DividesNet free divisor (next_net old))) old entries new

-- a step: the best candidate is taken out
pub record TakesBest
    (Candidate : Candidates) (free : Bool)
    (old : NetParts) (entries : List Entry) (new : NetParts) : Type 0 where
  pub divisor : List (List Lit)
  pub best : IsBest Candidate old.nets divisor
  pub course : TakesDivisor free divisor old entries new

-- some of a step
pub record TakesBestSome
    (Candidate : Candidates) (free : Bool)
    (old : NetParts) (entries : List Entry) (new : NetParts) : Type 0 where
  pub divisor : List (List Lit)
  pub best : IsBest Candidate old.nets divisor
  pub course : TakesDivisorSome free divisor old entries new
