-- An extraction leaves no more literals.
use Rattle.std.proofs.Common.{◌≤◌, ℕ, Bool, List, ◌++◌, length, ap, arith}
use Rattle.mv_cover.specs.Literal.{Lit}
use Rattle.mv_entry.specs.Entries.{Entry, rules_of}
use Rattle.mv_gains.specs.Candidates.{Candidates, IsDivisorFor, IsKernelCandidate, IsCubeCandidate}
use Rattle.mv_gains.proofs.Divisors.{kernel_divisor, cube_divisor, divisor_of}
use Rattle.mv_gains.proofs.Kept.{all_lines_formed}
use Rattle.mv_net.specs.declared.parts.NetParts.{NetParts}
use Rattle.mv_net.specs.Formed.{WellFormed}
use Rattle.mv_net.specs.Nets.{literals_in}
use Rattle.mv_pass.specs.Courses.{Course, Nothing, VisitsAll}
use Rattle.mv_pass.proofs.Turns.{Implies, of_nothing, of_visits}
use Rattle.mv_rules.proofs.Replayed.{replayed_formed}
use Rattle.mv_extract.specs.Steps.{TakesBest}
use Rattle.mv_extract.specs.Extracts.{EndsBy, NoneLeft, NoRoom, Extracts, NotesKernels, Skips, Tells, KernelsAll, CubesAll}
use Rattle.mv_extract.proofs.Leaving.{takes_leave}
use Rattle.mv_extract.proofs.Replays.{takes_replay}
use Rattle.mv_extract.proofs.Taking.{over_of}

-- there are no more literals than before
abbrev NoMore : Course
NoMore a es b = literals_in b.nets ≤ literals_in a.nets

-- a network that is well formed stays so, with no more literals
abbrev StaysFew : Course
StaysFew a es b = WellFormed a → WellFormed b × NoMore a es b

module _ (free : Bool) (Candidate : Candidates) (divides : (net : NetParts) (d : List (List Lit)) → WellFormed net → Candidate net.nets d → IsDivisorFor net.nets d) where
  step_few : Implies (TakesBest Candidate free) StaysFew
  step_few a es b s formed =
      let for_nets = divides a s.divisor formed s.best.candidate in
      let less = takes_leave free s.divisor a b es s.best.saved (divisor_of a.nets s.divisor for_nets) formed (over_of a s.divisor formed for_nets) s.best.saves s.course in
      (replayed_formed free (rules_of es) a b formed (takes_replay free s.divisor a es b s.course), omega (arith, less))

  few_then : (a b c : NetParts) (xs ys : List Entry) → StaysFew a xs b → StaysFew b ys c → StaysFew a (xs ++ ys) c
  few_then a b c xs ys p q formed =
      let first = p formed in
      let second = q first.0 in
      (second.0, omega (arith, first.1, second.1))

  module _ (Behind : Course) (behind : Implies Behind NoMore) where
    ends_few : Implies (EndsBy Candidate Behind) NoMore
    ends_few a es b (NoneLeft none course) = behind a es b course
    ends_few a es b (NoRoom name full is same) = let e = ap (λ (n : NetParts). literals_in n.nets) same in omega (arith, e)

    extracts_few : (a b : NetParts) (es : List Entry) → WellFormed a → Extracts Candidate Behind free a es b → literals_in b.nets ≤ literals_in a.nets
    extracts_few a b es formed t =
        let steps = of_visits StaysFew (λ n f. (f, omega arith)) few_then (λ k. TakesBest Candidate free) (λ k. step_few) t.first.times a t.front t.mid t.first.rounds formed in
        let rest = ends_few t.mid t.rest b t.second in
        omega (arith, steps.1, rest)

notes_few : (n : ℕ) → Implies (NotesKernels n) NoMore
notes_few n a es b (Skips few still) = let e = ap (λ (m : NetParts). literals_in m.nets) still.1 in omega (arith, e)
notes_few n a es b (Tells many is same) = let e = ap (λ (m : NetParts). literals_in m.nets) same in omega (arith, e)

pub kernels_no_more : (free : Bool) (a b : NetParts) (es : List Entry) → WellFormed a → KernelsAll free a es b → literals_in b.nets ≤ literals_in a.nets
kernels_no_more free =
    extracts_few free IsKernelCandidate (λ net d formed is. kernel_divisor net.nets d (all_lines_formed net formed) is) (VisitsAll NotesKernels)
    (λ a es b v. of_visits NoMore (λ n. omega arith) (λ a b c xs ys p q. omega (arith, p, q)) NotesKernels notes_few (length a.nets) a es b v)

pub cubes_no_more : (free : Bool) (a b : NetParts) (es : List Entry) → WellFormed a → CubesAll free a es b → literals_in b.nets ≤ literals_in a.nets
cubes_no_more free =
    extracts_few free IsCubeCandidate (λ net d formed is. cube_divisor net.nets d (all_lines_formed net formed) is) Nothing
    (of_nothing NoMore (λ n. omega arith) (λ a b c xs ys p q. omega (arith, p, q)))
