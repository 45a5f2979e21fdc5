-- The rules among the entries of an extraction apply in turn.
use Rattle.std.proofs.Common.{ℕ, Bool, List, length, refl, sym, subst}
use Rattle.mv_base.specs.declared.number.NetId.{NetId}
use Rattle.mv_cover.specs.Literal.{Lit}
use Rattle.mv_entry.specs.Entries.{rules_of}
use Rattle.mv_gains.specs.Candidates.{Candidates, IsKernelCandidate, IsCubeCandidate}
use Rattle.mv_pass.specs.Courses.{Course, Nothing, Perhaps, Still, Through, Repeated, VisitsAll, VisitsSome, Short, Past}
use Rattle.mv_pass.proofs.Going.{ReplaysRules, replays_then}
use Rattle.mv_pass.proofs.Turns.{Implies, of_nothing, of_turn, of_visits}
use Rattle.mv_pass.proofs.Visiting.{all_visits}
use Rattle.mv_rules.specs.Replaying.{Replays}
use Rattle.mv_extract.specs.Steps.{AddsDivisor, DividesNet, Own, LetBe, Divided, TakesDivisor, TakesDivisorSome, TakesBest, TakesBestSome, next_net}
use Rattle.mv_extract.specs.Extracts.{EndsBy, NoneLeft, NoRoom, Extracts, ExtractsSome, NotesKernels, Skips, Tells, KernelsAll, KernelsSome, CubesAll, CubesSome}

module _ (free : Bool) where
  abbrev Replay : Course
  Replay = ReplaysRules free

  adds_replay : (divisor : List (List Lit)) → Implies (AddsDivisor free divisor) Replay
  adds_replay divisor a es b p = subst (λ z. Replays free (rules_of z) a b) (sym p.entries_are) (b, (p.applies, refl))

  divides_replay : (divisor : List (List Lit)) (d : NetId) (n : ℕ) → Implies (DividesNet free divisor d n) Replay
  divides_replay divisor d n a es b (Own own still) = subst (λ z. Replays free (rules_of z) a b) (sym still.0) still.1
  divides_replay divisor d n a es b (LetBe none still) = subst (λ z. Replays free (rules_of z) a b) (sym still.0) still.1
  divides_replay divisor d n a es b (Divided by table lines division applies is) = subst (λ z. Replays free (rules_of z) a b) (sym is) (b, (applies, refl))

  all_replay : (divisor : List (List Lit)) (d : NetId) → Implies (VisitsAll (DividesNet free divisor d)) Replay
  all_replay divisor d a es b v = of_visits Replay (λ n. refl) (replays_then free) (DividesNet free divisor d) (divides_replay divisor d) (length a.nets) a es b v

  some_replay : (divisor : List (List Lit)) (d : NetId) → Implies (VisitsSome (DividesNet free divisor d)) Replay
  some_replay divisor d a es b v = of_visits Replay (λ n. refl) (replays_then free) (DividesNet free divisor d) (divides_replay divisor d) v.end a es b v.visits

  pub takes_replay : (divisor : List (List Lit)) → Implies (TakesDivisor free divisor) Replay
  takes_replay divisor a es b t =
      of_turn Replay (λ n. refl) (replays_then free) (AddsDivisor free divisor) (VisitsAll (DividesNet free divisor (next_net a)))
      (adds_replay divisor) (all_replay divisor (next_net a)) a es b t

  takes_some_replay : (divisor : List (List Lit)) → Implies (TakesDivisorSome free divisor) Replay
  takes_some_replay divisor a es b (Short still) = of_nothing Replay (λ n. refl) (replays_then free) a es b still
  takes_some_replay divisor a es b (Past t) =
      of_turn Replay (λ n. refl) (replays_then free) (AddsDivisor free divisor) (VisitsSome (DividesNet free divisor (next_net a)))
      (adds_replay divisor) (some_replay divisor (next_net a)) a es b t

  module _ (Candidate : Candidates) where
    step_replay : Implies (TakesBest Candidate free) Replay
    step_replay a es b s = takes_replay s.divisor a es b s.course

    part_replay : Implies (Perhaps (TakesBestSome Candidate free)) Replay
    part_replay a es b (Still still) = of_nothing Replay (λ n. refl) (replays_then free) a es b still
    part_replay a es b (Through s) = takes_some_replay s.divisor a es b s.course

    steps_replay : Implies (Repeated (TakesBest Candidate free)) Replay
    steps_replay a es b r = of_visits Replay (λ n. refl) (replays_then free) (λ k. TakesBest Candidate free) (λ k. step_replay) r.times a es b r.rounds

    module _ (Behind : Course) (behind : Implies Behind Replay) where
      ends_replay : Implies (EndsBy Candidate Behind) Replay
      ends_replay a es b (NoneLeft none course) = behind a es b course
      ends_replay a es b (NoRoom name full is same) = subst (λ z. Replays free (rules_of z) a b) (sym is) same

      ends_some_replay : Implies (Perhaps (EndsBy Candidate Behind)) Replay
      ends_some_replay a es b (Still still) = of_nothing Replay (λ n. refl) (replays_then free) a es b still
      ends_some_replay a es b (Through e) = ends_replay a es b e

      extracts_some_replay : Implies (ExtractsSome Candidate Behind free) Replay
      extracts_some_replay a es b (Short t) =
          of_turn Replay (λ n. refl) (replays_then free) (Repeated (TakesBest Candidate free)) (Perhaps (TakesBestSome Candidate free)) steps_replay part_replay a es b t
      extracts_some_replay a es b (Past t) =
          of_turn Replay (λ n. refl) (replays_then free) (Repeated (TakesBest Candidate free)) (Perhaps (EndsBy Candidate Behind)) steps_replay ends_some_replay a es b t

  notes_replay : (n : ℕ) → Implies (NotesKernels n) Replay
  notes_replay n a es b (Skips few still) = subst (λ z. Replays free (rules_of z) a b) (sym still.0) still.1
  notes_replay n a es b (Tells many is same) = subst (λ z. Replays free (rules_of z) a b) (sym is) same

  pub kernels_replay : Implies (KernelsSome free) Replay
  kernels_replay =
      extracts_some_replay IsKernelCandidate (VisitsSome NotesKernels)
      (λ a es b v. of_visits Replay (λ n. refl) (replays_then free) NotesKernels notes_replay v.end a es b v.visits)

  pub cubes_replay : Implies (CubesSome free) Replay
  cubes_replay = extracts_some_replay IsCubeCandidate Nothing (of_nothing Replay (λ n. refl) (replays_then free))

-- all of an extraction is some of it
module _ (free : Bool) (Candidate : Candidates) (Behind Some : Course) (some : Implies Behind Some) where
  all_is_some : Implies (Extracts Candidate Behind free) (ExtractsSome Candidate Some free)
  all_is_some a es b t = Past (record {
    mid = t.mid;
    front = t.front;
    rest = t.rest;
    first = t.first;
    second = Through (ends t.mid t.rest b t.second);
    entries_are = t.entries_are;
  })
    where
      ends : Implies (EndsBy Candidate Behind) (EndsBy Candidate Some)
      ends a es b (NoneLeft none course) = NoneLeft none (some a es b course)
      ends a es b (NoRoom name full is same) = NoRoom name full is same

pub kernels_all_some : (free : Bool) → Implies (KernelsAll free) (KernelsSome free)
kernels_all_some free = all_is_some free IsKernelCandidate (VisitsAll NotesKernels) (VisitsSome NotesKernels) (λ a es b v. all_visits NotesKernels a b es v)

pub cubes_all_some : (free : Bool) → Implies (CubesAll free) (CubesSome free)
cubes_all_some free = all_is_some free IsCubeCandidate Nothing Nothing (λ a es b still. still)
