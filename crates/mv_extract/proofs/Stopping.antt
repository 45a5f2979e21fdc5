-- Steps of an extraction up to its end, or to where it stops.
use Rattle.std.proofs.Common.{Bool, List, [], Result, Ok, Err, refl, sym}
use Rattle.std.proofs.lemmas.List.{append-nil}
use Rattle.mv_cover.specs.Literal.{Lit}
use Rattle.mv_entry.specs.Tallies.{Journaled}
use Rattle.mv_gains.specs.Candidates.{Candidates, IsBest, NoneSaves, IsDivisorFor}
use Rattle.mv_gains.proofs.Divisors.{kernel_divisor, cube_divisor}
use Rattle.mv_gains.proofs.Kept.{all_lines_formed}
use Rattle.mv_net.specs.declared.parts.NetParts.{NetParts}
use Rattle.mv_net.specs.Formed.{WellFormed}
use Rattle.mv_pass.specs.declared.stop.Stop.{Stop}
use Rattle.mv_pass.specs.declared.stop.Stop.TheVariants.{Memory}
use Rattle.mv_pass.specs.Courses.{Course, Perhaps, Still, Through, Repeated, Short, Past}
use Rattle.mv_pass.specs.Passing.{Passes}
use Rattle.mv_pass.proofs.Coming.{Came, came_as, came_more, came_stop, came_stuck, came_whole}
use Rattle.mv_pass.proofs.Stepped.{passes_as}
use Rattle.mv_extract.specs.declared.kind.Divisors.{Divisors}
use Rattle.mv_extract.specs.declared.kind.Divisors.TheVariants.{Kernels, Cubes}
use Rattle.mv_extract.specs.Dividing.{candidates_of}
use Rattle.mv_extract.specs.Extracts.{EndsBy, NoneLeft, Extracts, ExtractsSome}
use Rattle.mv_extract.specs.Steps.{TakesDivisor, TakesDivisorSome, TakesBest}

-- the best divisor of either kind is one over the nets
pub best_for : (kind : Divisors) (net : NetParts) (divisor : List (List Lit)) → WellFormed net → IsBest (candidates_of kind) net.nets divisor → IsDivisorFor net.nets divisor
best_for Kernels net divisor formed best = kernel_divisor net.nets divisor (all_lines_formed net formed) best.candidate
best_for Cubes net divisor formed best = cube_divisor net.nets divisor (all_lines_formed net formed) best.candidate

-- nothing yet is some of an extraction
pub not_begun : (Candidate : Candidates) (Behind : Course) (free : Bool) (net : NetParts) → ExtractsSome Candidate Behind free net [] net
not_begun Candidate Behind free net =
    Short (record { mid = net; front = []; rest = []; first = record { times = 0; rounds = (refl, refl) }; second = Still (refl, refl); entries_are = refl })

module _ (free : Bool) (Candidate : Candidates) (Behind Some : Course) (start here : NetParts) (j k : Journaled) (came : Came free (Repeated (TakesBest Candidate free)) start here j k) where
  -- it came to its end, or stopped there
  pub come_to_end : (new : NetParts) (l : Journaled) (result : Result (Unit {0}) Stop) → Passes free (EndsBy Candidate Behind) (Perhaps (EndsBy Candidate Some)) here new k l result
      → Passes free (Extracts Candidate Behind free) (ExtractsSome Candidate Some free) start new j l result
  come_to_end new l (Ok u) p =
      came_whole free (Extracts Candidate Behind free) (ExtractsSome Candidate Some free) start new j l
      (came_more free (Repeated (TakesBest Candidate free)) (EndsBy Candidate Behind) (Perhaps (EndsBy Candidate Some)) start here new j k l came (Extracts Candidate Behind free)
      (λ xs ys r e. record { mid = here; front = xs; rest = ys; first = r; second = e; entries_are = refl }) p)
  come_to_end new l (Err stop) p =
      came_stop free (Repeated (TakesBest Candidate free)) (EndsBy Candidate Behind) (Perhaps (EndsBy Candidate Some)) start here new j k l came (Extracts Candidate Behind free) (ExtractsSome Candidate Some free) stop
      (λ xs ys r e. Past (record { mid = here; front = xs; rest = ys; first = r; second = e; entries_are = refl })) p

  -- it stopped between two steps, for want of memory
  pub stuck_between : Passes free (Extracts Candidate Behind free) (ExtractsSome Candidate Some free) start here j k (Err Memory)
  stuck_between =
      came_stuck free (Extracts Candidate Behind free) (ExtractsSome Candidate Some free) start here j k
      (came_as free (Repeated (TakesBest Candidate free)) (ExtractsSome Candidate Some free) start here j k
      (λ es r. Short (record { mid = here; front = es; rest = []; first = r; second = Still (refl, refl); entries_are = sym (append-nil es) })) came)

  -- no candidate saves, and what comes behind answered
  pub none_left : NoneSaves Candidate here.nets → (new : NetParts) (l : Journaled) (result : Result (Unit {0}) Stop) → Passes free Behind Some here new k l result
      → Passes free (Extracts Candidate Behind free) (ExtractsSome Candidate Some free) start new j l result
  none_left none new l result p =
      come_to_end new l result
      (passes_as free Behind Some (EndsBy Candidate Behind) (Perhaps (EndsBy Candidate Some)) here new k l result (λ es b. NoneLeft none b) (λ es b. Through (NoneLeft none b)) p)

  -- a step stopped
  pub step_stopped : (divisor : List (List Lit)) → IsBest Candidate here.nets divisor → (new : NetParts) (l : Journaled) (stop : Stop) → Passes free (TakesDivisor free divisor) (TakesDivisorSome free divisor) here new k l (Err stop)
      → Passes free (Extracts Candidate Behind free) (ExtractsSome Candidate Some free) start new j l (Err stop)
  step_stopped divisor best new l stop p =
      came_stop free (Repeated (TakesBest Candidate free)) (TakesDivisor free divisor) (TakesDivisorSome free divisor) start here new j k l came (Extracts Candidate Behind free) (ExtractsSome Candidate Some free) stop
      (λ xs ys r t. Short (record { mid = here; front = xs; rest = ys; first = r; second = Through (record { divisor = divisor; best = best; course = t }); entries_are = refl })) p
