-- On the way through a step: what the tables are divided by. For private functions.
use Rattle.std.specs.Prelude.{◌≡◌, ◌+◌, ◌<◌, ◌≤◌, ℕ, true, Option, Some, List, length}
use Rattle.mv_base.specs.declared.number.NetId.{NetId}
use Rattle.mv_cover.specs.Literal.{Lit}
use Rattle.mv_cover.specs.declared.line.Line.{Line}
use Rattle.mv_cover.specs.declared.cover.Cover.{Cover}
use Rattle.mv_cover.specs.Covers.{cover_reads}
use Rattle.mv_division.specs.Divisors.{HasDivisor, with_divisor}
use Rattle.mv_division.specs.Divided.{IsDivision, divide_rule}
use Rattle.mv_entry.specs.declared.rule.Rule.{Rule}
use Rattle.mv_gains.specs.Candidates.{Candidates, IsKernelCandidate, IsCubeCandidate}
use Rattle.mv_net.specs.declared.parts.FlatNet.{FlatNet}
use Rattle.mv_net.specs.declared.parts.NetParts.{NetParts}
use Rattle.mv_net.specs.Nets.{slot, table_in}
use Rattle.mv_pass.specs.Courses.{Course, Nothing, VisitsAll, VisitsSome}
use Rattle.mv_extract.specs.declared.kind.Divisors.{Divisors}
use Rattle.mv_extract.specs.declared.kind.Divisors.TheVariants.{Kernels, Cubes}
use Rattle.mv_extract.specs.Extracts.{NotesKernels}

-- the candidates of a kind
abbrev pub candidates_of : Divisors → Candidates
candidates_of Kernels = IsKernelCandidate
candidates_of Cubes = IsCubeCandidate

-- what comes behind, where none saves any more
abbrev pub behind_of : Divisors → Course
behind_of Kernels = VisitsAll NotesKernels
behind_of Cubes = Nothing

-- some of that
abbrev pub behind_some : Divisors → Course
behind_some Kernels = VisitsSome NotesKernels
behind_some Cubes = Nothing

-- the net d, the last, stands for the divisor, and of the others no table from this number on reads
-- it
pub record IsReady (nets : List (Option FlatNet)) (divisor : List (List Lit)) (d : NetId)
    (from : ℕ) : Type 0 where
  pub some : 0 < length divisor
  pub last : length nets ≡ d.0 + 1
  pub by : List ℕ
  pub stands : HasDivisor nets d.0 by divisor
  pub below : (n : ℕ) (c : Cover) → from ≤ n → (n ≡ d.0 → ⊥) → table_in (slot nets n) ≡ Some c
      → (m : ℕ) → cover_reads c m ≡ true → m < d.0

-- the rule divides the table of the net n by the net d
pub record IsDivideRule (nets : List (Option FlatNet)) (divisor : List (List Lit)) (n d : NetId)
    (rule : Rule) : Type 0 where
  pub by : List ℕ
  pub table : Cover
  pub lines : List Line
  pub division : IsDivision nets n d by divisor table lines
  pub rule_is : rule ≡ divide_rule nets n.0 by table lines

-- a net came that stands for the divisor
pub record IsAdded (divisor : List (List Lit)) (old new : NetParts) : Type 0 where
  pub name : List ℕ
  pub new_is : new ≡ with_divisor old name divisor
